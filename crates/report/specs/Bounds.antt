-- Promises: how large the headers in samples are. No reader of the deposit needs this file.
use Rattle.std.specs.Prelude.{ℕ}

-- the most bytes of an entry's header
abbrev pub most_header : ℕ
most_header = 65536
