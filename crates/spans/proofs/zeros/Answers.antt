use Rattle.std.proofs.Common.{◌+◌, ◌-◌, ◌∙◌, ap, ℕ, replicate, ◌≡◌}
use native.Mathlib.Omega.{arith}
use lib.ListN.{length-replicate, length-take, length-drop}
use Rattle.spans.proofs.Put.{put_mid-put}
use Rattle.spans.proofs.zeros.Goals as goal

pub returns : goal.returns
returns c = let e : c.fill.new.self ≡ replicate c.args.n 0 = c.fill.ensures.after (λ y h. h) ∙ ap (λ (k : ℕ). replicate k 0) (simp (length-take, length-drop) (omega arith)) in
    rw e (put_mid-put c.args.dst.now c.args.at (c.args.at + c.args.n - c.args.at) (replicate c.args.n 0) (omega (arith, length-replicate {A = ℕ})) (omega arith))
