-- Bytes written as text.
use Rattle.std.specs.Prelude.{List, [], ◌∷◌, ℕ, zero, suc}
use Prim.Native.Char.{code}
use Prim.Native.String.{String, len, char_at}

abbrev pub codes : String → (i k : ℕ) → List ℕ
codes s i zero = []
codes s i (suc k) = code (char_at s i) ∷ codes s (suc i) k

-- the bytes of an ASCII text
abbrev pub ascii : String → List ℕ
ascii s = codes s 0 (len s)
