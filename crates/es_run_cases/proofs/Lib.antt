pub mod SeveralLemmas
