-- The words of a burst, decoded one after another: what stands after m of them.
-- Assumes nothing.
use mathlib.Core.Path.{◌≡◌, refl, sym, ap, ap₂, ◌∙◌, subst}
use mathlib.Core.List.{List, [], ◌∷◌, ◌++◌, append_assoc, append-nil}
use Prim.Native.Nat.{ℕ, zero, suc, pred, ◌+◌, ◌*◌, ◌-◌, ◌^◌, ◌≤◌, ◌<◌}
use native.Mathlib.Nat.{suc-mul, zero-mul, mul_comm, suc_inj}
use native.Mathlib.Omega.{arith}
use lib.ListN.{length, take, drop, set, replicate, length-replicate, length-append, length-set, drop_of_length-le}
use lib.Seq.{take_at, drop-append-add, drop-drop, take-suc-set, get_or-set_other}
use borrow.Rule.Slice.PartMut.{put_mid, Post-is}
use Rattle.spec_word.specs.Mixed.{joined}
use Rattle.spec_decoding.specs.Decode.{Result}
use Rattle.spec_operations.specs.Burst.{burst_word, answers_of, records_of}
use Rattle.book.specs.declared.Params.{Params}
use Rattle.decode_rounds.specs.Rounds.{TermsRoom}
use Rattle.burst.specs.Said.{record_bytes, list_bytes, blank, record_at, Blank}
use Rattle.burst.specs.Words.{DecodedWord, DecodedWords}
use Rattle.burst.specs.declared.Record.{Record}

-- ---- lists

pub list_bytes_append : (xs ys : List Record) → list_bytes (xs ++ ys) ≡ list_bytes xs ++ list_bytes ys
list_bytes_append [] ys = refl
list_bytes_append (x ∷ xs) ys = ap (λ (l : List ℕ). record_bytes x ++ l) (list_bytes_append xs ys)

-- a list of blank records
pub none_blank : {records : List Record} → records ≡ replicate 16 blank → Blank 0 records
none_blank e = record { blank_at = λ k l. ap (λ (xs : List Record). record_at xs k) e ∙ all-blank 16 k }
  where
    all-blank : (n k : ℕ) → record_at (replicate n blank) k ≡ blank
    all-blank zero k = refl
    all-blank (suc n) zero = refl
    all-blank (suc n) (suc k) = all-blank n k

-- the next n places of a buffer are written
pub put_next : (n a : ℕ) (xs old v : List ℕ) → length xs ≡ a → put_mid a (a + n - a) (xs ++ drop a old) v ≡ (xs ++ v) ++ drop (a + n) old
put_next n a xs old v e =
    ap₂ (λ (l r : List ℕ). l ++ (v ++ r)) (take_at xs (drop a old) a e)
    (Post-is a (a + n) (xs ++ drop a old) (omega arith)
    ∙ ap (λ (k : ℕ). drop (k + n) (xs ++ drop a old)) (sym e)
    ∙ drop-append-add xs (drop a old) n
    ∙ drop-drop n a old)
    ∙ sym (append_assoc xs v (drop (a + n) old))

-- ---- after m words

module _ (bytes : List ℕ) (c : Params) (words : ℕ) (received answers₀ terms₀ : List ℕ) where
  abbrev word : ℕ → Result
  word = burst_word bytes words received

  pub record SoFar (m : ℕ) (terms answers entries : List ℕ) (records : List Record) : Type 0 where
    pub most : m ≤ words
    pub room : TermsRoom bytes c terms
    pub terms_long : length terms ≡ length terms₀
    pub answers-same : length answers ≡ length answers₀
    pub answers_are : answers ≡ answers_of m word ++ drop (m * c.n) answers₀
    pub answers_long : length (answers_of m word) ≡ m * c.n
    pub records_are : list_bytes (take m records) ≡ records_of m word
    pub records-long : length records ≡ 16
    pub rest_is : Blank m records
    pub entries-long : length entries ≡ 2 ^ c.p * c.n
    pub entries_are : (k : ℕ) → m ≡ suc k → entries ≡ (word k).entries

  pub none_yet : {entries : List ℕ} {records : List Record} → TermsRoom bytes c terms₀ → length entries ≡ 2 ^ c.p * c.n → records ≡ replicate 16 blank
      → SoFar 0 terms₀ answers₀ entries records
  unfolding joined
  none_yet h e l =
      record {
        most = omega arith;
        room = h;
        terms_long = refl;
        answers-same = refl;
        answers_are = sym (ap (λ (k : ℕ). drop k answers₀) (zero-mul c.n));
        answers_long = omega arith;
        records_are = refl;
        records-long = ap length l ∙ length-replicate 16 blank;
        rest_is = none_blank l;
        entries-long = e;
        entries_are = λ k z. absurd (omega (arith, z));
      }

  pub one_more : {m m' : ℕ} {terms answers entries terms' answer' entries' : List ℕ} {records : List Record} {r : Record} → m' ≡ suc m → m < words → words ≤ 16
      → SoFar m terms answers entries records → TermsRoom bytes c terms' → DecodedWord (word m) r answer' entries'
      → length terms' ≡ length terms → length answer' ≡ c.n → length (put_mid (m * c.n) (m * c.n + c.n - m * c.n) answers answer') ≡ length answers
      → length entries' ≡ length entries
      → SoFar m' terms' (put_mid (m * c.n) (m * c.n + c.n - m * c.n) answers answer') entries' (set records m r)
  unfolding joined
  one_more {m} {m'} {answers = answers} {terms' = terms'} {answer' = answer'} {entries' = entries'} {records = records} {r = r} e h few s room d kept long put same =
      subst (λ (k : ℕ). SoFar k terms' (put_mid (m * c.n) (m * c.n + c.n - m * c.n) answers answer') entries' (set records m r)) (sym e)
      (record {
        most = omega arith;
        room = room;
        terms_long = kept ∙ s.terms_long;
        answers-same = put ∙ s.answers-same;
        answers_are =
            ap (λ (l : List ℕ). put_mid (m * c.n) (m * c.n + c.n - m * c.n) l answer') s.answers_are
            ∙ put_next c.n (m * c.n) (answers_of m word) answers₀ answer' s.answers_long
            ∙ ap₂ (λ (l : List ℕ) (k : ℕ). (answers_of m word ++ l) ++ drop k answers₀) d.answer_is (sym (suc-mul m c.n));
        answers_long =
            length-append (answers_of m word) (word m).answer
            ∙ ap₂ ◌+◌ s.answers_long (ap length (sym d.answer_is) ∙ long) ∙ sym (suc-mul m c.n);
        records_are =
            ap list_bytes (take-suc-set records m r (omega (arith, s.records-long)))
            ∙ list_bytes_append (take m records) (r ∷ [])
            ∙ ap₂ ◌++◌ s.records_are d.record_is;
        records-long = length-set records m r ∙ s.records-long;
        rest_is = record {
          blank_at = λ k l. get_or-set_other records m k r blank (λ z. omega (arith, z)) ∙ s.rest_is.blank_at k (omega arith);
        };
        entries-long = same ∙ s.entries-long;
        entries_are = λ k z. d.entries_is ∙ ap (λ (i : ℕ). (word i).entries) (suc_inj z);
      })

  pub all_of_them : {m : ℕ} {terms answers entries : List ℕ} {records : List Record} → SoFar m terms answers entries records → words ≤ m → 1 ≤ words
      → length answers₀ ≡ c.n * words → DecodedWords words word records answers entries
  all_of_them {m} {answers = answers} {entries = entries} {records = records} s h low long =
      record {
        records_are = subst (λ (k : ℕ). list_bytes (take k records) ≡ records_of k word) e s.records_are;
        rest_is = subst (λ (k : ℕ). Blank k records) e s.rest_is;
        answers_are =
            subst (λ (k : ℕ). answers ≡ answers_of k word ++ drop (k * c.n) answers₀) e s.answers_are
            ∙ ap (λ (l : List ℕ). answers_of words word ++ l) (drop_of_length-le answers₀ {i = words * c.n} (omega (arith, long, mul_comm words c.n)))
            ∙ append-nil (answers_of words word);
        entries_are = s.entries_are (pred words) (omega arith);
      }
    where
      e : m ≡ words
      e = omega (arith, s.most)
