-- The machine over two pieces is the machine over the one and then the other; and what bytes do that only join a part until it is whole.
-- Assumes nothing.
use mathlib.Core.Path.{◌≡◌, refl, sym, ap, ap₂, ◌∙◌}
use mathlib.Core.List.{List, [], ◌∷◌, ◌++◌, append_assoc, append-nil}
use Prim.Native.Nat.{ℕ, suc, ◌+◌, ◌≤◌, ◌<◌}
use native.Mathlib.Omega.{arith}
use lib.ListN.{length, length-append}
use Rattle.spec_program.specs.Line.{refusal_line}
use Rattle.spec_program.specs.Output.{piece_line}
use Rattle.spec_program.specs.Machine.{State, opening, answering, ended, step_in, text_in, finish_in, step_byte, byte_text, steps, steps_text, finish_text}

-- ---- pieces one after another

pub steps_join : (s : State) (a b : List ℕ) → steps s (a ++ b) ≡ steps (steps s a) b
unfolding steps
steps_join s [] b = refl
steps_join s (x ∷ a) b = steps_join (step_byte s x) a b

pub steps_text_join : (s : State) (a b : List ℕ) → steps_text s (a ++ b) ≡ steps_text s a ++ steps_text (steps s a) b
unfolding steps steps_text
steps_text_join s [] b = refl
steps_text_join s (x ∷ a) b =
    let s' = step_byte s x in
    ap (λ (t : List ℕ). byte_text s x ++ t) (steps_text_join s' a b) ∙ sym (append_assoc (byte_text s x) (steps_text s' a) (steps_text (steps s' a) b))

-- the text of a piece that is the last
abbrev pub last_text : State → List ℕ → List ℕ
last_text s piece = steps_text s piece ++ finish_text (steps s piece)

pub last_join : (s : State) (a b : List ℕ) → last_text s (a ++ b) ≡ steps_text s a ++ last_text (steps s a) b
last_join s a b =
    ap₂ (λ (t : List ℕ) (s' : State). t ++ finish_text s') (steps_text_join s a b) (steps_join s a b)
    ∙ append_assoc (steps_text s a) (steps_text (steps s a) b) (finish_text (steps (steps s a) b))

-- ---- the end of input, in each phase

pub finish_opening : (s : State) → s.phase ≡ opening → finish_text s ≡ refusal_line 1
unfolding finish_text
finish_opening s e = ap (λ p. finish_in p s) e

pub finish_answering : (s : State) → s.phase ≡ answering → finish_text s ≡ piece_line (length s.begun)
unfolding finish_text
finish_answering s e = ap (λ p. finish_in p s) e

pub finish_ended : (s : State) → s.phase ≡ ended → finish_text s ≡ []
unfolding finish_text
finish_ended s e = ap (λ p. finish_in p s) e

-- ---- a run that has ended: bytes change nothing and print nothing

pub steps_ended : (s : State) (a : List ℕ) → s.phase ≡ ended → steps s a ≡ s
unfolding steps step_byte
steps_ended s [] e = refl
steps_ended s (x ∷ a) e = ap (λ (s' : State). steps s' a) (ap (λ p. step_in p s x) e) ∙ steps_ended s a e

pub steps_text_ended : (s : State) (a : List ℕ) → s.phase ≡ ended → steps_text s a ≡ []
unfolding steps_text step_byte byte_text
steps_text_ended s [] e = refl
steps_text_ended s (x ∷ a) e = ap (λ p. text_in p s x ++ steps_text (step_in p s x) a) e ∙ steps_text_ended s a e

pub last_ended : (s : State) (a : List ℕ) → s.phase ≡ ended → last_text s a ≡ []
last_ended s a e = ap₂ (λ (t : List ℕ) (s' : State). t ++ finish_text s') (steps_text_ended s a e) (steps_ended s a e) ∙ finish_ended s e

-- ---- a part of `size` bytes, the field, the book or a word: `after part` is the state with what came of it, and each byte that it lacks only joins it

module _ (size : ℕ) (after : List ℕ → State) (joins : (part : List ℕ) (x : ℕ) → length part < size → step_byte (after part) x ≡ after (part ++ (x ∷ []))) where
  longer : (part : List ℕ) (x : ℕ) → length (part ++ (x ∷ [])) ≡ suc (length part)
  longer part x = omega (arith, length-append part (x ∷ []))

  pub steps-part : (part a : List ℕ) → length part + length a ≤ size → steps (after part) a ≡ after (part ++ a)
  unfolding steps
  steps-part part [] h = ap after (sym (append-nil part))
  steps-part part (x ∷ a) h =
      ap (λ (s : State). steps s a) (joins part x (omega arith))
      ∙ steps-part (part ++ (x ∷ [])) a (omega (arith, longer part x))
      ∙ ap after (append_assoc part (x ∷ []) a)

  -- `text part` is what the byte prints that ends `part`, and it is nothing while the part is short
  module _ (text : List ℕ → List ℕ)
      (prints : (part : List ℕ) (x : ℕ) → length part < size → byte_text (after part) x ≡ text (part ++ (x ∷ [])))
      (silent : (part : List ℕ) → length part < size → text part ≡ []) where
    pub steps-text-part : (part a : List ℕ) → length part < size → length part + length a ≤ size → steps_text (after part) a ≡ text (part ++ a)
    unfolding steps_text
    steps-text-part part [] l h = sym (silent part l) ∙ ap text (sym (append-nil part))
    steps-text-part part (x ∷ []) l h = append-nil (byte_text (after part) x) ∙ prints part x l
    steps-text-part part (x ∷ y ∷ a) l h =
        let more = part ++ (x ∷ []) in
        ap₂ (λ (t : List ℕ) (s : State). t ++ steps_text s (y ∷ a))
        (prints part x l ∙ silent more (omega (arith, longer part x)))
        (joins part x l)
        ∙ steps-text-part more (y ∷ a) (omega (arith, longer part x)) (omega (arith, longer part x))
        ∙ ap text (append_assoc part (x ∷ []) (y ∷ a))
