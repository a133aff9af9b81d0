use Prim.Native.Nat.{ℕ, ◌+◌}
use mathlib.Core.Path.{ap, sym, ◌∙◌}
use mathlib.Core.List.{List}
use Rattle.spans.specs.Span.{put}
use Rattle.numbers.specs.Number.{le}
use Rattle.numbers.proofs.Numbers.{put_then}
use Rattle.values.specs.Keys.{ver_bytes}
use Rattle.values.proofs.store_ver.Goals as goal

pub returns : goal.returns
unfolding ver_bytes
returns c = let a = c.args in
    c.put_u32.ensures
    ∙ ap (λ (b : List ℕ). put b (a.at + 8) (le 4 a.v.cmd)) c.put_u64.ensures
    ∙ sym (put_then a.buf.now a.at 8 a.v.txid (le 4 a.v.cmd))
