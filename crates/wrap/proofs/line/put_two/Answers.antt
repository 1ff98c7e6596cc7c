use mathlib.Core.Path.{◌≡◌, ◌∙◌, ap}
use mathlib.Core.List.{[], ◌∷◌}
use Prim.Native.Nat.{ℕ, ◌%◌}
use native.Mathlib.Omega.{arith}
use Rattle.tape.proofs.Copied.{copied}
use Rattle.wrap.specs.Wrap.{two}
use Rattle.wrap.proofs.line.put_two.Goals as goal

pub returns : goal.returns
returns c =
    let a = c.args in
    let high = ap (λ (x : ℕ). x ∷ a.v % 256 ∷ []) (omega arith) in
    let bytes : c.copy_from_slice.new.self ≡ two a.v = c.copy_from_slice.ensures.after ∙ c.to_be_bytes.ensures ∙ high in
    rw bytes (copied a.ws.now (two a.v) a.at c.requires.0)
