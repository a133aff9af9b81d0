use Rattle.std.proofs.Common.{◌∙◌}
use Rattle.order.specs.Version.{newer_than}
use Rattle.order.proofs.Laws.{case_order}
use borrow.Author.Tests.{lt-ltb, le-ltb, eq-eqb, ne_eqb}
use native.Mathlib.Omega.{arith}
use Rattle.order.proofs.Ver.newer.Goals as goal

pub returns : goal.returns
unfolding newer_than
returns c = let a = c.args.self in
    let b = c.args.other in
    c.gt.ensures
    ∙ case_order a.txid b.txid
    (λ h. simp (lt-ltb a.txid b.txid h, le-ltb b.txid a.txid (omega arith), ne_eqb a.txid b.txid (λ e. omega arith)))
    (λ h. simp (le-ltb a.txid b.txid (omega arith), le-ltb b.txid a.txid (omega arith), eq-eqb a.txid b.txid h)
    (case_order a.cmd b.cmd (λ k. simp (lt-ltb a.cmd b.cmd k, le-ltb b.cmd a.cmd (omega arith))) (λ k. simp (le-ltb a.cmd b.cmd (omega arith), le-ltb b.cmd a.cmd (omega arith), eq-eqb a.cmd b.cmd k)) (λ k. simp (le-ltb a.cmd b.cmd (omega arith), lt-ltb b.cmd a.cmd k, ne_eqb a.cmd b.cmd (λ e. omega arith)))))
    (λ h. simp (le-ltb a.txid b.txid (omega arith), lt-ltb b.txid a.txid h, ne_eqb a.txid b.txid (λ e. omega arith)))
