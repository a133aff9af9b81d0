use Prim.Native.Nat.{◌+◌}
use mathlib.Core.Path.{◌≡◌, refl, sym, ◌∙◌}
use native.Mathlib.Omega.{arith}
use lib.ListN.{length, length-set}
use lib.Seq.{take-set-le}
use Rattle.spans.specs.Span.{part}
use Rattle.spans.proofs.Part.{length_part, get_d_part, get_d_agree}
use Rattle.spans.proofs.Put.{put_turn, put_begin, put-end}
use Rattle.spans.proofs.copy_within.Goals as goal

pub loop-j-init : goal.loop-j-init
loop-j-init c = (refl, put_begin c.args.arena.now c.args.to (part c.args.arena.now c.args.from c.args.n), refl)

pub loop-j-preserved : goal.loop-j-preserved
loop-j-preserved c = let a = c.args in
    let l = c.loop-j in
    let long : length (part a.arena.now a.from a.n) ≡ a.n = length_part a.arena.now a.from a.n (omega arith) in
    (simp length-set (omega arith), put_turn l.arena a.to (part a.arena.now a.from a.n) l.j _ (omega arith) (get_d_part a.arena.now a.from a.n l.j 0 (omega arith) ∙ get_d_agree a.arena.now l.arena (a.from + l.j) a.to 0 (omega arith) (sym l.invariant.2)) ∙ l.invariant.1, take-set-le a.to l.arena (a.to + l.j) _ (omega arith) ∙ l.invariant.2)

pub returns : goal.returns
returns c = let a = c.args in
    let l = c.loop-j in
    let long : length (part a.arena.now a.from a.n) ≡ a.n = length_part a.arena.now a.from a.n (omega arith) in
    sym (put-end l.arena (a.to + l.j) (part a.arena.now a.from a.n) l.j (omega arith)) ∙ l.invariant.1
