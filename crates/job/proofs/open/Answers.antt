use native.Mathlib.Omega.{arith}
use Rattle.std.proofs.Common.{rules, ◌≡◌, ◌∙◌, sym, refl, List, ℕ, ◌<◌}
use Rattle.std.specs.Array.{AllOfLen}
use Rattle.std.proofs.lemmas.List.{ext_get_or, get_or-replicate}
use Rattle.job.specs.Stripes.{stripes_with, no_record}
use Prim.Native.Nat.{◌≤◌}
use lib.ListN.{length, replicate, length-replicate}
use Rattle.compositor.specs.Settings.{picture_bytes}
use Rattle.compositor.proofs.AcceptedCalls.{cue_fits, cue_extra}
use Rattle.job.proofs.Division.{stripes_few}
use Rattle.job.proofs.open.Goals as goal

pub clear-requires : goal.clear-requires
clear-requires c =
    let r = c.in-Ok.ensures {u = tt} in
    let fits : picture_bytes c.in-Ok.laid.layout.settings ≤ length c.args.picture.now = rw r.settings (cue_fits _ _ _ _ _ r.means) in
    omega (arith, fits, c.picture_bytes.ensures)

pub new-requires : goal.new-requires
new-requires c = stripes_few _ _ (cue_extra _ _ _ _ _ (c.in-Ok.ensures {u = tt}).means)

all_zero : {l : List ℕ} {n : ℕ} → AllOfLen (λ x. x ≡ 0) l n → l ≡ replicate n 0
all_zero {l} {n} z =
    let zero : ℕ = 0 in
    let long = length-replicate n zero in
    ext_get_or 0 l (replicate n 0) (omega (arith, z.long, long))
    (λ i h. let there : i < n = omega (arith, z.long) in z.at i 0 there ∙ sym (get_or-replicate n i 0 0 there))

pub returns-in-Err : goal.returns-in-Err
unfolding stripes_with
returns-in-Err c =
    let e = c.default.ensures in
    let zeros : c.default.result ≡ no_record = rw (e.0.0, all_zero e.0.1, all_zero e.1) refl in
    rw zeros (search rules)
