-- What a call tells as one word of 64 bits, so that a caller in any language takes it from a register: bits 0 to 7 the answer's number, bits 8 to 15 how many events were
-- undone or the name that was found, bits 32 to 63 the localities touched. The bits between are 0.
-- In order: `packed`; the word of a call (`packed_told`), of a key (`packed_found`) and of a locality (`packed_locality`).
-- Assumes nothing.
use Rattle.std.specs.Prelude.{ℕ, ◌+◌, ◌*◌}
use Rattle.requests.specs.Requests.{number}
use Rattle.names.specs.declared.Key.{Key}
use Rattle.names.specs.declared.Locality.{Locality}
use Rattle.finder.specs.declared.Found.{Found}
use Rattle.requests.specs.declared.Told.{Told}

abbrev pub packed : ℕ → ℕ → ℕ → ℕ
packed answer name touched = answer + 256 * name + 4294967296 * touched

abbrev pub packed_told : Told → ℕ
packed_told t = packed (number t.answer) t.undone t.touched.0

-- nothing is touched by a question
abbrev pub packed_found : Found Key → ℕ
packed_found f = packed (number f.answer) f.name.0 0

abbrev pub packed_locality : Found Locality → ℕ
packed_locality f = packed (number f.answer) f.name.0 0
