-- `c_step::step_any` meets its contract. Assumes nothing.
use Rattle.std.proofs.Common.{Ok}
use mathlib.Core.Path.{sym, ap, ◌∙◌}
use Rattle.walks.specs.declared.Walk.{Walk}
use Rattle.walks.specs.Walk.{step_at}
use Rattle.c_step.proofs.One.{stepped_found, stepped_leads, stepped_end, stepped_refused}
use Rattle.c_step.proofs.step_any.Goals as goal

pub returns-in-Found : goal.returns-in-Found
returns-in-Found c = stepped_found c.args.s.now c.args.walk.now c.args.out.now c.in-Found.x c.in-Found.v (ap (λ (w : Walk). step_at c.args.s.now w) (sym c.walk_in-w.ensures) ∙ sym c.step.ensures ∙ c.in-Ok.is ∙ ap Ok c.in-Found.is) c.store_walk.ensures c.store_item.ensures

pub returns-in-Leads : goal.returns-in-Leads
returns-in-Leads c = stepped_leads c.args.s.now c.args.walk.now c.args.out.now c.in-Leads.x c.in-Leads.v (ap (λ (w : Walk). step_at c.args.s.now w) (sym c.walk_in-w.ensures) ∙ sym c.step.ensures ∙ c.in-Ok.is ∙ ap Ok c.in-Leads.is) c.store_walk-in-Leads.ensures c.store_branch.ensures

pub returns-in-End : goal.returns-in-End
returns-in-End c = stepped_end c.args.s.now c.args.walk.now c.args.out.now (ap (λ (w : Walk). step_at c.args.s.now w) (sym c.walk_in-w.ensures) ∙ sym c.step.ensures ∙ c.in-Ok.is ∙ ap Ok c.in-End.is) c.store_end.ensures

pub returns-in-Err : goal.returns-in-Err
returns-in-Err c = stepped_refused c.args.s.now c.args.walk.now c.args.out.now c.in-Err.r (ap (λ (w : Walk). step_at c.args.s.now w) (sym c.walk_in-w.ensures) ∙ sym c.step.ensures ∙ c.in-Err.is) c.no.ensures
