-- SCOPE 4.45: the version of the library as a number, so that a caller can hold it against that of the header.
-- Assumes nothing.
use Rattle.std.specs.Prelude.{ℕ, ◌+◌, ◌*◌}

-- SCOPE 4.45: a byte each for major, minor and patch, the last one the lowest
abbrev pub version : ℕ → ℕ → ℕ → ℕ
version major minor patch = 65536 * major + 256 * minor + patch
