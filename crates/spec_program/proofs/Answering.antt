-- What the machine does with the bytes of words, once the codebook is accepted.
-- Assumes nothing.
use mathlib.Core.Path.{◌≡◌, refl, sym, ap, ap₂, ◌∙◌}
use mathlib.Core.Bool.{Bool, cond}
use mathlib.Core.List.{List, [], ◌∷◌, ◌++◌}
use Prim.Native.Nat.{ℕ, zero, suc, ◌+◌, ◌*◌, ◌≤◌, ◌<◌}
use native.Mathlib.Nat.{suc-mul}
use native.Mathlib.Decide.{dec_lt}
use native.Mathlib.Omega.{arith}
use borrow.Author.Tests.{lt-ltb, le-ltb}
use lib.ListN.{length, take, drop, length-append, length-drop, take-append-drop}
use lib.Seq.{length-take-le, take_all, take-add}
use Rattle.spec_program.specs.Output.{word_size, word_line, lines_of, text_of, most_words}
use Rattle.spec_program.specs.Machine.{State, Phase, answering, ended, beginning, counted, worded, worded_text, step_byte, byte_text, steps, steps_text}
use Rattle.spec_program.specs.Machine.{finish_text}
use Rattle.spec_program.proofs.Blocks.{text_piece, text_join, text_word}
use Rattle.spec_program.proofs.Joining.{steps_join, steps_text_join, last_text, last_join, last_ended, steps-part, steps-text-part}

-- ---- states with a begun word, and with none

-- after the last word that is read the run has ended
pub counted_ended : (s : State) (count : ℕ) → most_words ≤ count → (counted s count).phase ≡ ended
unfolding counted
counted_ended s count h = ap (λ (b : Bool). cond b answering ended) (le-ltb count most_words h)

pub counted_answering : (s : State) (count : ℕ) → count < most_words → (counted s count).phase ≡ answering
unfolding counted
counted_answering s count h = ap (λ (b : Bool). cond b answering ended) (lt-ltb count most_words h)

-- a state that is answering has its begun word
pub beginning_self : (s : State) → s.phase ≡ answering → beginning s s.begun ≡ s
unfolding beginning
beginning_self s p = ap (λ (q : Phase). record { field = s.field; book = s.book; count = s.count; begun = s.begun; phase = q }) (sym p)

-- and where none is begun, its count
pub counted_self : (s : State) → s.phase ≡ answering → s.begun ≡ [] → s.count < most_words → counted s s.count ≡ s
unfolding counted
counted_self s p e h =
    ap₂ (λ (w : List ℕ) (q : Phase). record { field = s.field; book = s.book; count = s.count; begun = w; phase = q }) (sym e)
    (counted_answering s s.count h ∙ sym p)

-- ---- a piece of a word

module _ (s : State) where
  abbrev n : ℕ
  n = word_size s.book

  worded-short : (word : List ℕ) → length word < n → worded s word ≡ beginning s word
  unfolding worded
  worded-short word h = ap (λ (b : Bool). cond b (beginning s word) (counted s (suc s.count))) (lt-ltb (length word) n h)

  worded-whole : (word : List ℕ) → length word ≡ n → worded s word ≡ counted s (suc s.count)
  unfolding worded
  worded-whole word h = ap (λ (b : Bool). cond b (beginning s word) (counted s (suc s.count))) (le-ltb (length word) n (omega arith))

  text-short : (word : List ℕ) → length word < n → worded_text s word ≡ []
  unfolding worded_text
  text-short word h = ap (λ (b : Bool). cond b [] (word_line s.book word)) (lt-ltb (length word) n h)

  text-whole : (word : List ℕ) → length word ≡ n → worded_text s word ≡ word_line s.book word
  unfolding worded_text
  text-whole word h = ap (λ (b : Bool). cond b [] (word_line s.book word)) (le-ltb (length word) n (omega arith))

  begun-step : (word : List ℕ) (x : ℕ) → step_byte (beginning s word) x ≡ worded s (word ++ (x ∷ []))
  unfolding step_byte beginning worded counted
  begun-step word x = refl

  begun-text : (word : List ℕ) (x : ℕ) → byte_text (beginning s word) x ≡ worded_text s (word ++ (x ∷ []))
  unfolding byte_text beginning worded_text
  begun-text word x = refl

  joins : (word : List ℕ) (x : ℕ) → length word < n → step_byte (worded s word) x ≡ worded s (word ++ (x ∷ []))
  joins word x h = ap (λ (t : State). step_byte t x) (worded-short word h) ∙ begun-step word x

  prints : (word : List ℕ) (x : ℕ) → length word < n → byte_text (worded s word) x ≡ worded_text s (word ++ (x ∷ []))
  prints word x h = ap (λ (t : State). byte_text t x) (worded-short word h) ∙ begun-text word x

  module _ (a : List ℕ) (p : s.phase ≡ answering) where
    self : length s.begun < n → s ≡ worded s s.begun
    self h = sym (worded-short s.begun h ∙ beginning_self s p)

    steps-worded : length s.begun < n → length s.begun + length a ≤ n → steps s a ≡ worded s (s.begun ++ a)
    steps-worded h l = ap (λ (t : State). steps t a) (self h) ∙ steps-part n (worded s) joins s.begun a l

    steps-text-worded : length s.begun < n → length s.begun + length a ≤ n → steps_text s a ≡ worded_text s (s.begun ++ a)
    steps-text-worded h l =
        ap (λ (t : State). steps_text t a) (self h) ∙ steps-text-part n (worded s) joins (worded_text s) prints text-short s.begun a h l

    -- one that does not complete a word only joins it
    module _ (h : length s.begun + length a < n) where
      pub steps-begun : steps s a ≡ beginning s (s.begun ++ a)
      steps-begun = steps-worded (omega arith) (omega arith) ∙ worded-short (s.begun ++ a) (omega (arith, length-append s.begun a))

      pub steps-text-begun : steps_text s a ≡ []
      steps-text-begun = steps-text-worded (omega arith) (omega arith) ∙ text-short (s.begun ++ a) (omega (arith, length-append s.begun a))

    -- what a begun word lacks makes its line, and one more is answered
    module _ (short : length s.begun < n) (h : length s.begun + length a ≡ n) where
      pub steps-word : steps s a ≡ counted s (suc s.count)
      steps-word = steps-worded short (omega arith) ∙ worded-whole (s.begun ++ a) (omega (arith, length-append s.begun a))

      pub steps-text-word : steps_text s a ≡ word_line s.book (s.begun ++ a)
      steps-text-word = steps-text-worded short (omega arith) ∙ text-whole (s.begun ++ a) (omega (arith, length-append s.begun a))

-- ---- a row of whole words

module _ (s : State) (pos : 0 < word_size s.book) where
  abbrev size : ℕ
  size = word_size s.book

  -- one word, where none is begun
  step-one : (count : ℕ) (word : List ℕ) → count < most_words → length word ≡ size → steps (counted s count) word ≡ counted s (suc count)
  unfolding counted
  step-one count word l h = steps-word (counted s count) word (counted_answering s count l) pos (omega arith)

  text-one : (count : ℕ) (word : List ℕ) → count < most_words → length word ≡ size → steps_text (counted s count) word ≡ word_line s.book word
  unfolding counted
  text-one count word l h = steps-text-word (counted s count) word (counted_answering s count l) pos (omega arith)

  -- `k` words
  pub steps_row : (k count : ℕ) (words : List ℕ) → count + k ≤ most_words → length words ≡ k * size → steps (counted s count) words ≡ counted s (count + k)
  unfolding steps
  steps_row zero count [] l h = ap (counted s) (omega arith)
  steps_row zero count (x ∷ words) l h = absurd (omega arith)
  steps_row (suc k) count words l h =
      let enough : size ≤ length words = omega (arith, suc-mul k size) in
      ap (steps (counted s count)) (sym (take-append-drop size words))
      ∙ steps_join (counted s count) (take size words) (drop size words)
      ∙ ap (λ (t : State). steps t (drop size words)) (step-one count (take size words) (omega arith) (length-take-le size words enough))
      ∙ steps_row k (suc count) (drop size words) (omega arith) (omega (arith, suc-mul k size, length-drop size words))
      ∙ ap (counted s) (omega arith)

  pub steps_text_row : (k count : ℕ) (words : List ℕ) → count + k ≤ most_words → length words ≡ k * size
      → steps_text (counted s count) words ≡ lines_of s.book k words
  unfolding steps_text lines_of
  steps_text_row zero count [] l h = refl
  steps_text_row zero count (x ∷ words) l h = absurd (omega arith)
  steps_text_row (suc k) count words l h =
      let enough : size ≤ length words = omega (arith, suc-mul k size) in
      let word = take size words in
      let rest = drop size words in
      ap (steps_text (counted s count)) (sym (take-append-drop size words))
      ∙ steps_text_join (counted s count) word rest
      ∙ ap₂ (λ (t : List ℕ) (s' : State). t ++ steps_text s' rest)
      (text-one count word (omega arith) (length-take-le size words enough))
      (step-one count word (omega arith) (length-take-le size words enough))
      ∙ ap (λ (t : List ℕ). word_line s.book word ++ t)
      (steps_text_row k (suc count) rest (omega arith) (omega (arith, suc-mul k size, length-drop size words)))

  -- the same from a state in which none is begun
  module _ (p : s.phase ≡ answering) (e : s.begun ≡ []) (l : s.count < most_words)
      (k : ℕ) (words : List ℕ) (fits : s.count + k ≤ most_words) (h : length words ≡ k * size) where
    pub steps-words : steps s words ≡ counted s (s.count + k)
    steps-words = ap (λ (t : State). steps t words) (sym (counted_self s p e l)) ∙ steps_row k s.count words fits h

    pub steps-text-words : steps_text s words ≡ lines_of s.book k words
    steps-text-words = ap (λ (t : State). steps_text t words) (sym (counted_self s p e l)) ∙ steps_text_row k s.count words fits h

  -- ---- what is left of a run: less than a word, or a word and what follows it

  last-piece : (count : ℕ) (rest : List ℕ) → count < most_words → length rest < size → last_text (counted s count) rest ≡ text_of s.book rest
  unfolding finish_text beginning counted
  last-piece count rest l h =
      let p = counted_answering s count l in
      ap₂ (λ (t : List ℕ) (s' : State). t ++ finish_text s')
      (steps-text-begun (counted s count) rest p (omega arith))
      (steps-begun (counted s count) rest p (omega arith))
      ∙ sym (text_piece s.book pos rest h)

  module _ (rest : List ℕ) (enough : size ≤ length rest) where
    abbrev word : List ℕ
    word = take size rest

    last_word : (count : ℕ) → count < most_words
        → last_text (counted s count) rest ≡ word_line s.book word ++ last_text (counted s (suc count)) (drop size rest)
    last_word count l =
        ap (last_text (counted s count)) (sym (take-append-drop size rest))
        ∙ last_join (counted s count) word (drop size rest)
        ∙ ap₂ (λ (t : List ℕ) (s' : State). t ++ last_text s' (drop size rest))
        (text-one count word l (length-take-le size rest enough))
        (step-one count word l (length-take-le size rest enough))

    first-text : (k : ℕ) → text_of s.book (take (suc k * size) rest) ≡ word_line s.book word ++ text_of s.book (take (k * size) (drop size rest))
    first-text k =
        let e : suc k * size ≡ size + k * size = omega (arith, suc-mul k size) in
        let whole = length-take-le size rest enough in
        ap (λ (j : ℕ). text_of s.book (take j rest)) e
        ∙ ap (text_of s.book) (take-add size (k * size) rest)
        ∙ text_join s.book pos 1 word (take (k * size) (drop size rest)) (omega (arith, whole))
        ∙ ap (λ (t : List ℕ). t ++ text_of s.book (take (k * size) (drop size rest))) (text_word s.book pos word whole)

  -- `k` words may still be read
  pub last_words : (k count : ℕ) (rest : List ℕ) → count + k ≡ most_words → last_text (counted s count) rest ≡ text_of s.book (take (k * size) rest)
  last_words zero count rest h =
      let e : 0 ≡ 0 * size = omega arith in
      last_ended (counted s count) rest (counted_ended s count (omega arith))
      ∙ sym (text_piece s.book pos [] pos)
      ∙ ap (λ (j : ℕ). text_of s.book (take j rest)) e
  last_words (suc k) count rest h = by_length (dec_lt (length rest) size) (last_words k (suc count) (drop size rest) (omega arith))
    where
      by_length : Dec (length rest < size) → last_text (counted s (suc count)) (drop size rest) ≡ text_of s.book (take (k * size) (drop size rest))
          → last_text (counted s count) rest ≡ text_of s.book (take (suc k * size) rest)
      by_length (yes short) more =
          last-piece count rest (omega arith) short ∙ ap (text_of s.book) (sym (take_all (suc k * size) rest (omega (arith, suc-mul k size))))
      by_length (no long) more =
          let enough : size ≤ length rest = omega arith in
          last_word rest enough count (omega arith) ∙ ap (λ (t : List ℕ). word_line s.book (take size rest) ++ t) more ∙ sym (first-text rest enough k)
