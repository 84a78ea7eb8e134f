-- What a game answers.
-- Assumes nothing.
use Rattle.std.specs.Prelude.{[], ◌∷◌, Result, Ok, Err}
use Rattle.spec_field.specs.Answer.{Answer, done, refused}
use Rattle.spec_operations.specs.Game.{game_letter}
use Rattle.refusal.specs.declared.Refusal.{Refusal}
use Rattle.refusal.specs.Number.{number_of}
use Rattle.game.specs.declared.Game.{Game}
use Rattle.game.specs.declared.Game.TheVariants.{Whole, Held}

-- how many words are held, 0 and the letter: that of a game with none held, or with some; or the number
abbrev pub said : Result Game Refusal → Answer
said (Ok Whole) = done (0 ∷ 0 ∷ game_letter 0 ∷ [])
said (Ok (Held count)) = done (count ∷ 0 ∷ game_letter 1 ∷ [])
said (Err why) = refused (number_of why)
