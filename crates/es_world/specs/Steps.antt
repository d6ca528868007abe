-- What a world has, and what its calls make of it.
use Rattle.std.specs.Prelude.{◌≡◌, List, [], ◌∷◌, ◌++◌, Result, Ok, Err}
use Rattle.es_model.specs.declared.declaration.System.{System}
use Rattle.es_model.specs.declared.memory.NoMemory.{NoMemory}
use Rattle.es_model.specs.Values.{Name}
use Rattle.es_process.specs.SingleThread.{is_among}
use Rattle.es_world.specs.Answers.{Made, made}
use Rattle.es_world.specs.Told.{histories_in}
use Rattle.es_world.specs.World.{World as WorldOf}
use Rattle.es_world.specs.declared.steps.AppHistory.{AppHistory}
use Rattle.es_world.specs.declared.steps.StepAnswer.{StepAnswer}
use Rattle.es_world.specs.declared.steps.WorldStep.{WorldStep}
use Rattle.es_world.specs.declared.world.World.{World}

-- histories, and the names of the applications that are down, as a world
abbrev pub world_over : List AppHistory → List Name → WorldOf
world_over apps down = record { histories = histories_in apps; down = λ app. is_among app down }

-- the system of a world, and what it is
abbrev pub system_of : World → System
system_of w = w.sys

abbrev pub world_of : World → WorldOf
world_of w = world_over w.histories.items w.down.items

-- a step made this, or changed nothing where memory was short
abbrev pub IsMade : Made → WorldOf → Result StepAnswer NoMemory → WorldOf → Type 0
IsMade m old (Ok answer) new = (answer ≡ m.answer) × (new ≡ m.left)
IsMade m old (Err fault) new = new ≡ old

-- what a list of steps leaves, one after the other
abbrev pub left_after : System → WorldOf → List WorldStep → WorldOf
left_after sys w [] = w
left_after sys w (s ∷ steps) = left_after sys (made sys w s).left steps

-- all steps were made, or a front of them where memory was short
abbrev pub AreMade : System → WorldOf → List WorldStep → Result (Unit {0}) NoMemory → WorldOf → Type 0
AreMade sys old steps (Ok done) new = new ≡ left_after sys old steps
AreMade sys old steps (Err fault) new = (front : List WorldStep) × (rest : List WorldStep) × (steps ≡ front ++ rest) × (new ≡ left_after sys old front)
