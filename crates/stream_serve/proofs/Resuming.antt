-- The state after the words of a piece.
-- Assumes nothing.
use mathlib.Core.Path.{◌≡◌, refl, sym, ap, subst, ◌∙◌}
use mathlib.Core.Bool.{Bool, true, false, cond}
use mathlib.Core.List.{List}
use Prim.Native.Nat.{ℕ, ◌+◌, ◌*◌, ◌≤◌}
use native.Mathlib.Omega.{arith}
use borrow.Author.Tests.{lt-ltb, ltb-true}
use lib.Dec.{ltb}
use lib.ListN.{length, take}
use Rattle.spec_program.specs.Output.{most_words}
use Rattle.spec_program.specs.Machine as M
use Rattle.spec_program.specs.Machine.{answering, ended, steps, steps_text}
use Rattle.book.specs.declared.Params.{Params}
use Rattle.book.proofs.Described.{params_sizes}
use Rattle.stream_text.specs.Printed.{Printed}
use Rattle.stream_state.specs.declared.Phase.TheVariants.{Answering, Ended}
use Rattle.stream_state.specs.declared.State.{State}
use Rattle.stream_serve.specs.declared.Answers.{Answers}
use Rattle.stream_state.specs.State.{phase_of, field_came, book_came, begun_came, state_of, Serving, InPhase, Sound}
use Rattle.stream_state.specs.Stepping.{Steps}
use Rattle.stream_serve.specs.Serving.{serving_state, Going, Served, answers_of, resumed_of}
use Rattle.stream_state.proofs.Phases.{in_answering}

module _ (s : State) (c : Params) (t terms : List ℕ) (z : Sound s t terms) (p : s.phase ≡ Answering c) where
  pub serving : Serving s c t terms
  serving = in_answering s c t terms z p

  pub from_going : (end : ℕ) → Going c (answers_of s end)
  from_going end = record { begun_size = z.sized.begun_size; held_lt = serving.held_lt; count_le = omega (arith, serving.count_lt) }

  from_is : (end : ℕ) → serving_state (field_came s) (book_came s) (answers_of s end) ≡ state_of s
  unfolding serving_state state_of
  from_is end =
      ap (λ (q : M.Phase). record { field = field_came s; book = book_came s; count = s.count; begun = begun_came s; phase = q })
      (ap (λ (b : Bool). cond b answering ended) (lt-ltb s.count most_words serving.count_lt) ∙ sym (ap phase_of p))

  same-phase : (b : Bool) → phase_of (cond b (Answering c) Ended) ≡ cond b answering ended
  same-phase true = refl
  same-phase false = refl

  resumed-is : (a : Answers) → state_of (resumed_of s c a) ≡ serving_state (field_came s) (book_came s) a
  unfolding serving_state state_of
  resumed-is a =
      ap (λ (q : M.Phase). record { field = field_came s; book = book_came s; count = a.count; begun = take a.held a.begun; phase = q })
      (same-phase (ltb a.count most_words))

  module _ {end : ℕ} {piece out₀ : List ℕ} {a : Answers} {terms' out : List ℕ} (served : Served (book_came s) c
      (answers_of s end) piece out₀ a terms' out) where
    resumed-in : (b : Bool) → ltb a.count most_words ≡ b → InPhase (cond b (Answering c) Ended) (resumed_of s c a) t terms'
    resumed-in true e =
        record {
          describes = serving.describes;
          table_is = serving.table_is;
          terms_are = served.terms_are;
          held_lt = served.going.held_lt;
          count_lt = ltb-true a.count most_words e;
        }
    resumed-in false e = tt

    resumed-sound : length terms' ≡ 8384 → Sound (resumed_of s c a) t terms'
    resumed-sound size =
        record {
          sized =
              record {
                field_size = z.sized.field_size;
                book_size = z.sized.book_size;
                begun_size = served.going.begun_size;
                got_le = z.sized.got_le;
                came_le = z.sized.came_le;
                held_le = omega (arith, served.going.held_lt, (params_sizes (book_came s) c serving.describes).n_high);
              };
          table_size = z.table_size;
          terms_size = size;
          in_phase = resumed-in (ltb a.count most_words) refl;
        }

    pub serves : {r : State} → r ≡ resumed_of s c a → end + 6 * (s.held + length piece) ≤ length out₀ → length terms' ≡ 8384
        → Steps s piece out₀ end r a.end out × Sound r t terms'
    serves is room size =
        let from = from_is end in (
          record {
            state_is = ap state_of is ∙ resumed-is a ∙ served.state_is (field_came s) ∙ ap (λ (m : M.State). steps m piece) from;
            text_is = subst (λ (m : M.State). Printed out₀ end (steps_text m piece) out a.end) from (served.text_is (field_came s));
            within = omega (arith, served.end_le, (served.text_is (field_came s)).kept);
          },
          subst (λ (x : State). Sound x t terms') (sym is) (resumed-sound size),
        )
