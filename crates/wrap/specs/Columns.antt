-- Letters by their code points: document 01, "Runs and lines", second paragraph. Definitions only.
use Rattle.std.specs.Prelude.{Bool, ◌&&◌, ◌||◌, not, cond, ℕ, nat_le, ◌==◌}

abbrev pub is_break : ℕ → Bool
is_break c = c == 0x0a

abbrev pub is_space : ℕ → Bool
is_space c = c == 0x20

abbrev pub is_tab : ℕ → Bool
is_tab c = c == 0x09

-- space or tab
abbrev pub is_blank : ℕ → Bool
is_blank c = is_space c || is_tab c

-- Unicode's category Cc
abbrev pub is_control : ℕ → Bool
is_control c = nat_le c 0x1f || (nat_le 0x7f c && nat_le c 0x9f)

-- the columns of a letter: none for a control, but one for tab and for every other letter
abbrev pub columns_of : ℕ → ℕ
columns_of c = cond (is_control c && not (is_tab c)) 0 1
