-- What was read and written between two turns, and what a run that stops has done.
-- Assumes nothing.
use Rattle.std.proofs.Common.{◌≡◌, Bool, true, false, ◌⊎◌, inl, inr, ℕ, suc, ◌+◌, ◌-◌, ◌*◌, ◌≤◌, ◌<◌, List, [], ◌++◌, None, Some, IfSome, arith, length, take, drop, refl, sym, ap, ◌∙◌, subst, append-nil, length-append, append_assoc, take_all}
use mathlib.Core.Bool.{true≢false}
use Rattle.std.proofs.Math.Nat.{suc-mul}
use lib.Dec.{T}
use Rattle.std.proofs.Math.Seq.{take-append-add}
use Rattle.std.proofs.lemmas.List.{take-append-le}
use Rattle.std.proofs.lemmas.List.Edits.{sets-eq}
use Rattle.std.specs.declared.option.Option.{Option}
use Rattle.std.specs.Io.KnownBytes.{Appends, Consumes, IsAtEnd}
use Rattle.std.proofs.KnownBytes.{Appends-nil, Appends-trans, Consumes-nil, Consumes-trans}
use Rattle.spec_program.specs.Output.{output}
use Rattle.spec_program.specs.Machine as M
use Rattle.spec_program.specs.Machine.{is_over, start, steps, steps_text, finish_text}
use Rattle.spec_program.proofs.Joining.{steps_join, steps_text_join, last_join, last_ended, finish_ended}
use Rattle.spec_program.proofs.Machine.{machine_output}
use Rattle.spec_program.proofs.Longest.{over_ended, longest_over}
use Rattle.stream_text.specs.Printed.{written, Printed}
use Rattle.stream_state.specs.declared.State.{State}
use Rattle.stream_state.specs.State.{state_of}
use Rattle.stream_state.specs.Stepping.{Steps}
use Rattle.stream_turns.specs.Turns.{piece_size, turns, turns_left}

-- ---- the text that stands at the start of a room

pub front_text : {out₀ vs out : List ℕ} {end : ℕ} → Printed out₀ 0 vs out end → end ≤ length out → take end out ≡ vs
unfolding written
front_text {out₀} {vs} {out} {end} p h =
    ap (take end) (p.holds ∙ sets-eq vs out₀ 0 (omega (arith, p.past, p.kept, h)))
    ∙ take-append-le end vs (drop (0 + length vs) out₀) (omega (arith, p.past))
    ∙ take_all end vs (omega (arith, p.past))

-- ---- the turns that are left

left_goes : (left : ℕ) (sent full over : Bool) → 0 < turns_left left sent full over → (sent ≡ true) × (full ≡ true) × (turns_left left sent full over ≡ left - 1)
unfolding turns_left
left_goes left false full over h = absurd (omega (arith, h))
left_goes left true false over h = absurd (omega (arith, h))
left_goes left true true true h = absurd (omega (arith, h))
left_goes left true true false h = (refl, refl, refl)

left_stops : (left : ℕ) (over : Bool) → turns_left left true true over ≡ 0 → T over ⊎ (left - 1 ≡ 0)
unfolding turns_left
left_stops left true h = inl tt
left_stops left false h = inr h

-- ---- between two turns: r₀ and w₀ are the bytes of reader and writer before the run, r and w those now; a turn takes a piece of at most `size` bytes

pub record Passing (r₀ r w₀ w : Option (List ℕ)) (size left : ℕ) (s : State) (sent failed : Bool) : Type 0 where
  -- what was read so far
  pub input : List ℕ
  pub came : Consumes r₀ r input
  pub state_is : state_of s ≡ steps start input
  pub answered : sent ≡ true → Appends w₀ w (steps_text start input)
  pub cut : sent ≡ false → (k : ℕ) × Appends w₀ w (take k (output input))
  -- turns are left only after full pieces, all of them answered
  pub going : 0 < left → sent ≡ true
  pub counted : 0 < left → length input + left * size ≡ turns * size
  -- the last turn that neither failed ended the input or the run
  pub stopped : left ≡ 0 → sent ≡ true → failed ≡ false → piece_size ≤ size → IsAtEnd r ⊎ T (is_over (steps start input))

pub begins : (r w : Option (List ℕ)) (size left : ℕ) (s : State) → left ≡ turns → state_of s ≡ start → Passing r r w w size left s true false
unfolding steps steps_text
begins r w size left s e is =
    record {
      input = [];
      came = Consumes-nil r;
      state_is = is;
      answered = λ _. Appends-nil w;
      cut = λ f. absurd (true≢false f);
      going = λ _. refl;
      counted = λ _. let same : left * size ≡ turns * size = ap (λ n. n * size) e in omega (arith, same);
      stopped = λ z. absurd (omega (arith, e, z));
    }

-- the output of what was read is what was printed and what the end of input prints
whole : (input : List ℕ) → output input ≡ steps_text start input ++ finish_text (steps start input)
whole input = sym (machine_output input)

-- the front of a text a, b, c that ends in b
front_of : (a b c : List ℕ) (k : ℕ) → k ≤ length b → a ++ take k b ≡ take (length a + k) (a ++ (b ++ c))
front_of a b c k h = ap (λ l. a ++ l) (sym (take-append-le k b c h)) ∙ sym (take-append-add a (b ++ c) k)

module _ {r₀ r w₀ w : Option (List ℕ)} {size left : ℕ} {s : State} {sent failed : Bool} (p : Passing r₀ r w₀ w size left s sent failed) where
  -- one turn more
  module _ (more : 0 < left) (r' w' : Option (List ℕ)) (piece out₀ out : List ℕ) (left' end : ℕ) (s' : State) (sent' failed' full : Bool)
      (came : Consumes r r' piece) (short : failed' ≡ false → full ≡ false → IsAtEnd r') (filled : full ≡ true → length piece ≡ size)
      (step : Steps s piece out₀ 0 s' end out)
      (all : sent' ≡ true → Appends w w' (take end out))
      (part : (k : ℕ) × (k ≤ length (take end out)) × Appends w w' (take k (take end out)))
      (left_is : left' ≡ turns_left left sent' full (is_over (state_of s'))) where
    abbrev input' : List ℕ
    input' = p.input ++ piece

    abbrev text : List ℕ
    text = steps_text (steps start p.input) piece

    text_is : take end out ≡ text
    text_is = front_text step.text_is step.within ∙ ap (λ (m : M.State). steps_text m piece) p.state_is

    joined : steps_text start input' ≡ steps_text start p.input ++ text
    joined = steps_text_join start p.input piece

    state_is' : state_of s' ≡ steps start input'
    state_is' = step.state_is ∙ ap (λ (m : M.State). steps m piece) p.state_is ∙ sym (steps_join start p.input piece)

    before : Appends w₀ w (steps_text start p.input)
    before = p.answered (p.going more)

    answered' : sent' ≡ true → Appends w₀ w' (steps_text start input')
    answered' e = subst (Appends w₀ w') (ap (λ l. steps_text start p.input ++ l) text_is ∙ sym joined) (Appends-trans _ _ _ _ _ before (all e))

    output_is : output input' ≡ steps_text start p.input ++ (text ++ finish_text (steps start input'))
    output_is = whole input' ∙ ap (λ l. l ++ finish_text (steps start input')) joined ∙ append_assoc (steps_text start p.input) text (finish_text (steps start input'))

    cut' : (k : ℕ) × Appends w₀ w' (take k (output input'))
    cut' =
        let (k, within, took) = part in
        let fits : k ≤ length text = subst (λ l. k ≤ length l) text_is within in
        let at = length (steps_text start p.input) + k in
        let front : steps_text start p.input ++ take k (take end out) ≡ take at (output input')
        = ap (λ l. steps_text start p.input ++ take k l) text_is
        ∙ front_of (steps_text start p.input) text (finish_text (steps start input')) k fits
        ∙ ap (take at) (sym output_is) in
        (at, subst (Appends w₀ w') front (Appends-trans _ _ _ _ _ before took))

    goes : 0 < left' → (sent' ≡ true) × (full ≡ true) × (left' ≡ left - 1)
    goes h = let g = left_goes left sent' full (is_over (state_of s')) (subst (λ n. 0 < n) left_is h) in (g.0, g.1, left_is ∙ g.2)

    counted' : 0 < left' → length input' + left' * size ≡ turns * size
    counted' h =
        let (_, f, e) = goes h in
        let one : left ≡ suc left' = omega (arith, e, more) in
        let product : left * size ≡ left' * size + size = ap (λ n. n * size) one ∙ suc-mul left' size in
        omega (arith, length-append p.input piece, filled f, product, p.counted more)

    stopped' : left' ≡ 0 → sent' ≡ true → failed' ≡ false → piece_size ≤ size → IsAtEnd r' ⊎ T (is_over (steps start input'))
    stopped' z sent_is failed_is wide = by_full full refl
      where
        last : T (is_over (state_of s')) ⊎ (left - 1 ≡ 0) → full ≡ true → IsAtEnd r' ⊎ T (is_over (steps start input'))
        last (inl t) f = inr (subst (λ (m : M.State). T (is_over m)) state_is' t)
        last (inr e) f =
            let one : left ≡ 1 = omega (arith, e, more) in
            let size_is : length p.input + size ≡ turns * size = omega (arith, one, ap (λ n. n * size) one, p.counted more) in
            inr (longest_over input' (omega (arith, length-append p.input piece, filled f, size_is, wide)))

        by_full : (f : Bool) → full ≡ f → IsAtEnd r' ⊎ T (is_over (steps start input'))
        by_full false f = inl (short failed_is f)
        by_full true f =
            last
            (left_stops left (is_over (state_of s')) (ap (λ (b : Bool). turns_left left b true (is_over (state_of s'))) (sym sent_is) ∙ ap (λ (b : Bool). turns_left left sent' b (is_over (state_of s'))) (sym f) ∙ sym left_is ∙ z))
            f

    pub passes : Passing r₀ r' w₀ w' size left' s' sent' failed'
    passes =
        record {
          input = input';
          came = Consumes-trans _ _ _ _ _ p.came came;
          state_is = state_is';
          answered = answered';
          cut = λ _. cut';
          going = λ h. (goes h).0;
          counted = counted';
          stopped = stopped';
        }

  -- the end of input
  module _ (sent_is : sent ≡ true) (w' : Option (List ℕ)) (out₀ out : List ℕ) (end : ℕ) (prints : Printed out₀ 0 (finish_text (state_of s)) out end) (within : end ≤ length out) where
    last_is : take end out ≡ finish_text (steps start p.input)
    last_is = front_text prints within ∙ ap finish_text p.state_is

    -- all was written: the output of what was read
    pub ends_read : Appends w w' (take end out) → Appends w₀ w' (output p.input)
    ends_read all =
        subst (Appends w₀ w') (ap (λ l. steps_text start p.input ++ l) last_is ∙ machine_output p.input) (Appends-trans _ _ _ _ _ (p.answered sent_is) all)

    -- a front of it was
    pub ends_cut : (k : ℕ) × (k ≤ length (take end out)) × Appends w w' (take k (take end out)) → (k : ℕ) × Appends w₀ w' (take k (output p.input))
    ends_cut part =
        let (k, fits, took) = part in
        let last = finish_text (steps start p.input) in
        let at = length (steps_text start p.input) + k in
        let front : steps_text start p.input ++ take k (take end out) ≡ take at (output p.input)
        = ap (λ l. steps_text start p.input ++ take k l) last_is
        ∙ front_of (steps_text start p.input) last [] k (subst (λ l. k ≤ length l) last_is fits)
        ∙ ap (λ l. take at (steps_text start p.input ++ l)) (append-nil last)
        ∙ ap (take at) (machine_output p.input) in
        (at, subst (Appends w₀ w') front (Appends-trans _ _ _ _ _ (p.answered sent_is) took))

    -- nothing failed: the output of all that the reader had
    module _ (z : left ≡ 0) (failed_is : failed ≡ false) (wide : piece_size ≤ size) where
      same_output : (rest : List ℕ) → T (is_over (steps start p.input)) → output (p.input ++ rest) ≡ output p.input
      same_output rest t =
          let over = over_ended (steps start p.input) t in
          sym (machine_output (p.input ++ rest))
          ∙ last_join start p.input rest
          ∙ ap (λ l. steps_text start p.input ++ l) (last_ended (steps start p.input) rest over ∙ sym (finish_ended (steps start p.input) over))
          ∙ machine_output p.input

      of_all : (a b : Option (List ℕ)) → Consumes a b p.input → IsAtEnd b ⊎ T (is_over (steps start p.input)) → Appends w₀ w' (output p.input) → IfSome a (λ xs. Appends w₀ w' (output xs))
      of_all None b c o h = tt
      of_all (Some xs) None c o h = absurd c
      of_all (Some xs) (Some ys) c (inl e) h = subst (λ l. Appends w₀ w' (output l)) (sym (c ∙ ap (λ l. p.input ++ l) e ∙ append-nil p.input)) h
      of_all (Some xs) (Some ys) c (inr t) h = subst (Appends w₀ w') (sym (ap output c ∙ same_output ys t)) h

      pub ends_all : Appends w w' (take end out) → IfSome r₀ (λ xs. Appends w₀ w' (output xs))
      ends_all all = of_all r₀ r p.came (p.stopped z sent_is failed_is wide) (ends_read all)
