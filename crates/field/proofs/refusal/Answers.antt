-- `field::refusal` meets its contract. Assumes nothing.
use Prim.Native.Nat.{◌^◌}
use borrow.Author.Tests.{ne_eqb, lt-ltb, le-ltb, le-leb, lt-leb}
use native.Mathlib.Omega.{arith}
use Rattle.spec_field.specs.Operations.{field_refusal}
use Rattle.field.proofs.refusal.Goals as goal

pub returns-then-p-gt6 : goal.returns-then-p-gt6
unfolding field_refusal
returns-then-p-gt6 c = simp (ne_eqb c.args.p 0 (omega arith), lt-ltb _ _ c.if-p-gt6.true)

pub returns-then-q-a : goal.returns-then-q-a
unfolding field_refusal
returns-then-q-a c = let s = c.args in
    simp (ne_eqb s.p 0 (omega arith), le-ltb _ _ c.if-p-gt6.false, le-leb (2 ^ s.p) s.a (omega arith))

pub returns-then-q-b : goal.returns-then-q-b
unfolding field_refusal
returns-then-q-b c = let s = c.args in
    simp (ne_eqb s.p 0 (omega arith), le-ltb _ _ c.if-p-gt6.false, lt-leb (2 ^ s.p) s.a (omega arith), le-leb (2 ^ s.p) s.b (omega arith))

pub returns : goal.returns
unfolding field_refusal
returns c = let s = c.args in
    simp (ne_eqb s.p 0 (omega arith), le-ltb _ _ c.if-p-gt6.false, lt-leb (2 ^ s.p) s.a (omega arith), lt-leb (2 ^ s.p) s.b (omega arith))
