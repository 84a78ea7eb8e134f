-- The messages of answer words, read one after another: what stands after m of them.
-- Assumes nothing.
use mathlib.Core.Path.{◌≡◌, refl, sym, ap, ap₂, ◌∙◌, subst}
use mathlib.Core.List.{List, [], ◌++◌, append-nil}
use Prim.Native.Nat.{ℕ, suc, ◌+◌, ◌*◌, ◌-◌, ◌≤◌, ◌<◌}
use native.Mathlib.Nat.{suc-mul, zero-mul, mul_comm}
use native.Mathlib.Omega.{arith}
use lib.ListN.{length, drop, drop_of_length-le}
use borrow.Rule.Slice.PartMut.{put_mid}
use Rattle.spec_range.proofs.Table.{table-length}
use Rattle.std.specs.Prelude.{Result, Ok, Err, IsOk}
use Rattle.spec_field.specs.Answer.{Answer, answer, done}
use Rattle.refusal.specs.declared.Refusal.{Refusal}
use Rattle.refusal.specs.Number.{said}
use Rattle.spec_word.specs.Mixed.{joined, part}
use Rattle.spec_word.proofs.Mixed.{joined_length}
use Rattle.spec_book.specs.Book.{message_length}
use Rattle.spec_book.specs.Layout.{book_of}
use Rattle.spec_book.proofs.Known.{book_accepted}
use Rattle.spec_coding.specs.Coder.{message}
use Rattle.spec_operations.specs.Wrote.{Wrote}
use Rattle.spec_operations.specs.Coding.{read_word_refusal, message_of}
use Rattle.spec_operations.proofs.Wrote.{wrote_new}
use Rattle.book.specs.Params.{Tabulated, Describes}
use Rattle.book.specs.Opened.{OpenBook}
use Rattle.book.specs.declared.Params.{Params}
use Rattle.book.proofs.Described.{params_sizes}
use Rattle.burst.proofs.Loop.{put_next}
use Rattle.game.specs.Words.{Readable, SomeWords, messages_in}

-- a message has k symbols
message-length : (bytes w : List ℕ) → length (message_of bytes w) ≡ message_length (book_of bytes)
unfolding message
message-length bytes w = table-length (message_length (book_of bytes)) _

pub open_book : {bytes : List ℕ} {c : Params} {t : List ℕ} → Describes bytes c → Tabulated bytes c.p c.n t → OpenBook bytes c t
open_book d t = record { describes = d; table_is = t }

-- k, by the parameters
pub k_is : {bytes : List ℕ} {c : Params} {t : List ℕ} → OpenBook bytes c t → c.n - c.degree ≡ message_length (book_of bytes)
k_is b = ap₂ ◌-◌ b.describes.n_is b.describes.degree_is

-- k is a difference, and no larger than n
pub degree_le : {bytes : List ℕ} {c : Params} → Describes bytes c → c.degree ≤ c.n
degree_le {bytes} d = omega (arith, d.n_is, d.degree_is, (book_accepted bytes d.accepted).generates.degree_lt)

pub k_high : {bytes : List ℕ} {c : Params} → Describes bytes c → c.n - c.degree ≤ 255
k_high {bytes} {c} d = omega (arith, (params_sizes bytes c d).n_high)

-- what is done is not refused
pub is_done : {A : Type 0} (r : Result A Refusal) → said r ≡ done [] → IsOk r
is_done (Ok value) e = refl
is_done (Err why) e = let no : ◌≡◌ {A = ℕ} 0 1 = cc in absurd (omega (arith, no))

module _ (c : Params) (t : List ℕ) (words : ℕ) (answers messages₀ : List ℕ) where
  abbrev k : ℕ
  k = c.n - c.degree

  -- a word that can be read is read
  read_taken : {bytes : List ℕ} → OpenBook bytes c t → Readable bytes words answers → {m : ℕ} → m < words → {v : List ℕ} (old : List ℕ) → v ≡ part c.n answers m
      → length old ≡ k → read_word_refusal bytes v (length old) ≡ 0
  read_taken {bytes} b r {m} h old hv ho =
      ap₂ (read_word_refusal bytes) (hv ∙ ap (λ (n : ℕ). part n answers m) b.describes.n_is) (ho ∙ k_is b) ∙ r.can_read m h

  pub word_read : (w : SomeWords c t words answers) → {m : ℕ} → m < words → {v old new : List ℕ} {A : Type 0} (r : Result A Refusal) → v ≡ part c.n answers m → length old ≡ k
      → ((bytes : List ℕ) → OpenBook bytes c t → Wrote (read_word_refusal bytes v (length old)) (message_of bytes v) old (said r) new) → IsOk r
  word_read w h {old = old} r hv ho wrote =
      is_done r ((wrote w.bytes w.open_book).says ∙ ap (λ (n : ℕ). answer n []) (read_taken w.open_book w.readable h old hv ho))

  pub record ReadSoFar (m : ℕ) (messages : List ℕ) : Type 0 where
    pub most : m ≤ words
    pub same : length messages ≡ length messages₀
    pub messages-are : (bytes : List ℕ) → OpenBook bytes c t → Readable bytes words answers
        → messages ≡ messages_in bytes m answers ++ drop (m * k) messages₀

  pub none_yet : ReadSoFar 0 messages₀
  unfolding joined
  none_yet = record { most = omega arith; same = refl; messages-are = λ bytes b r. sym (ap (λ (i : ℕ). drop i messages₀) (zero-mul k)) }

  read-long : (bytes : List ℕ) → OpenBook bytes c t → (m : ℕ) → length (messages_in bytes m answers) ≡ m * k
  read-long bytes b m =
      joined_length (message_length (book_of bytes)) m (λ i. message_of bytes (part (book_of bytes).n answers i)) (λ i _. message-length bytes _)
      ∙ ap (m *◌) (sym (k_is b))

  pub one_more : {m m' : ℕ} {messages old new v : List ℕ} {a : Answer} → m' ≡ suc m → m < words → v ≡ part c.n answers m → length old ≡ k
      → ReadSoFar m messages → length (put_mid (m * k) (m * k + k - m * k) messages new) ≡ length messages
      → ((bytes : List ℕ) → OpenBook bytes c t → Wrote (read_word_refusal bytes v (length old)) (message_of bytes v) old a new)
      → ReadSoFar m' (put_mid (m * k) (m * k + k - m * k) messages new)
  unfolding joined
  one_more {m} {m'} {messages} {old} {new} {v} {a} e h hv ho s put wrote =
      subst (λ (i : ℕ). ReadSoFar i (put_mid (m * k) (m * k + k - m * k) messages new)) (sym e)
      (record {
        most = omega arith;
        same = put ∙ s.same;
        messages-are = λ bytes b r.
            let word : v ≡ part (book_of bytes).n answers m = hv ∙ ap (λ (n : ℕ). part n answers m) b.describes.n_is in
            let z = read_taken b r h old hv ho in
            ap (λ (l : List ℕ). put_mid (m * k) (m * k + k - m * k) l new) (s.messages-are bytes b r)
            ∙ put_next k (m * k) (messages_in bytes m answers) messages₀ new (read-long bytes b m)
            ∙ ap₂ (λ (l : List ℕ) (i : ℕ). (messages_in bytes m answers ++ l) ++ drop i messages₀)
            (wrote_new z (wrote bytes b) ∙ ap (message_of bytes) word) (sym (suc-mul m k));
      })

  pub all_read : {m : ℕ} {messages : List ℕ} → ReadSoFar m messages → words ≤ m → length messages₀ ≡ k * words
      → (bytes : List ℕ) → OpenBook bytes c t → Readable bytes words answers → messages ≡ messages_in bytes words answers
  all_read {m} {messages} s h long bytes b r =
      subst (λ (i : ℕ). messages ≡ messages_in bytes i answers ++ drop (i * k) messages₀) e (s.messages-are bytes b r)
      ∙ ap (λ (l : List ℕ). messages_in bytes words answers ++ l) (drop_of_length-le messages₀ {i = words * k} (omega (arith, long, mul_comm words k)))
      ∙ append-nil (messages_in bytes words answers)
    where
      e : m ≡ words
      e = omega (arith, s.most)
