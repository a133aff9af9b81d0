use mathlib.Core.Path.{ap}
use Prim.Native.Nat.{ℕ}
use Rattle.build_image.proofs.call_of.Goals as goal

pub returns : goal.returns
returns c = ap (λ (k : ℕ). record { limit = c.args.limit; budget = c.args.budget; group = c.args.group; txid = c.args.txid; lsn = k }) c.larger.ensures
