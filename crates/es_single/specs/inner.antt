pub mod Prompts
