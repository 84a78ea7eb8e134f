-- What a run leaves of a reader and a writer whose bytes are known.
-- Assumes nothing.
use Rattle.std.specs.Prelude.{List, ℕ, take, IfSome, Result, Ok, Err}
use Rattle.std.specs.declared.option.Option.{Option}
use Rattle.std.specs.Io.KnownBytes.{Appends, Consumes}
use Rattle.spec_program.specs.Output.{output}
use Rattle.stream_io.specs.declared.Failure.{Failure}
use Rattle.stream_io.specs.declared.Failure.TheVariants.{Read, Write}

-- r and r' are the bytes that the reader had left before and after, w and w' those that the writer held. Where nothing failed, the writer has the output of
-- all that the reader had. SCOPE 6.13: after a failed read it has the output of what was read. SCOPE 6.14: after a failed write it has a front of it.
abbrev pub Answers : Result (Unit {0}) Failure → Option (List ℕ) → Option (List ℕ) → Option (List ℕ) → Option (List ℕ) → Type 0
Answers (Ok done) r r' w w' = IfSome r (λ input. Appends w w' (output input))
Answers (Err Read) r r' w w' = (input : List ℕ) × Consumes r r' input × Appends w w' (output input)
Answers (Err Write) r r' w w' = (input : List ℕ) × Consumes r r' input × ((k : ℕ) × Appends w w' (take k (output input)))
