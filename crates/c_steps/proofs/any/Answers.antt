-- `c_steps::any` meets its contract. Assumes nothing.
use Rattle.std.proofs.Common.{Ok}
use native.Mathlib.Omega.{arith}
use mathlib.Core.Path.{sym, ◌∙◌, ap}
use Rattle.c_steps.proofs.Running.{fills-found, fills-leads, stops_end, stops_refused}
use Rattle.c_steps.proofs.Ways.{found-on, leads-on, known_none}
use Rattle.c_steps.proofs.any.Goals as goal

pub returns-in-Found : goal.returns-in-Found
returns-in-Found c = (fills-found c.args.s.now c.args.room c.args.at c.args.w c.args.out.now c.requires.room_nonzero c.in-Found.x c.on_page.result (omega arith) (found-on c.args.s.now c.args.w c.in-Found.x c.in-Found.v (sym c.step.ensures ∙ c.in-Ok.is ∙ ap Ok c.in-Found.is) c.on_page.ensures) c.store_item.ensures, (known_none c.args.s.now _, omega arith))

pub returns-in-Leads : goal.returns-in-Leads
returns-in-Leads c = (fills-leads c.args.s.now c.args.room c.args.at c.args.w c.args.out.now c.requires.room_nonzero c.in-Leads.x c.on_page-in-Leads.result (omega arith) (leads-on c.args.s.now c.args.w c.in-Leads.x c.in-Leads.v (sym c.step.ensures ∙ c.in-Ok.is ∙ ap Ok c.in-Leads.is) c.on_page-in-Leads.ensures) c.store_branch.ensures, (known_none c.args.s.now _, omega arith))

pub returns-in-End : goal.returns-in-End
returns-in-End c = stops_end c.args.s.now c.args.room c.args.at c.args.w c.args.out.now c.requires.room_nonzero (sym c.step.ensures ∙ c.in-Ok.is ∙ ap Ok c.in-End.is)

pub returns-in-Err : goal.returns-in-Err
returns-in-Err c = stops_refused c.args.s.now c.args.room c.args.at c.args.w c.args.out.now c.requires.room_nonzero c.in-Err.r c.no.ensures (sym c.step.ensures ∙ c.in-Err.is)
