use Prim.Native.Nat.{◌/◌}
use native.Mathlib.Omega.{arith}
use Rattle.lengths.proofs.Laws.{size_more, size-last}
use Rattle.lengths.proofs.size.Goals as goal

pub returns-then-x-lt128 : goal.returns-then-x-lt128
returns-then-x-lt128 c = let x = c.args.x in
    omega (arith, size-last x (omega arith))

pub returns-then-x-lt16384 : goal.returns-then-x-lt16384
returns-then-x-lt16384 c = let x = c.args.x in
    omega (arith, size_more x (omega arith) (omega arith), size-last (x / 128) (omega arith))

pub returns-then-x-lt2097152 : goal.returns-then-x-lt2097152
returns-then-x-lt2097152 c = let x = c.args.x in
    omega (arith, size_more x (omega arith) (omega arith), size_more (x / 128) (omega arith) (omega arith), size-last ((x / 128) / 128) (omega arith))

pub returns-then-x-lt268435456 : goal.returns-then-x-lt268435456
returns-then-x-lt268435456 c = let x = c.args.x in
    omega (arith, size_more x (omega arith) (omega arith), size_more (x / 128) (omega arith) (omega arith), size_more ((x / 128) / 128) (omega arith) (omega arith), size-last (((x / 128) / 128) / 128) (omega arith))

pub returns-else-x-lt268435456 : goal.returns-else-x-lt268435456
returns-else-x-lt268435456 c = let x = c.args.x in
    omega (arith, size_more x (omega arith) (omega arith), size_more (x / 128) (omega arith) (omega arith), size_more ((x / 128) / 128) (omega arith) (omega arith), size_more (((x / 128) / 128) / 128) (omega arith) (omega arith), size-last ((((x / 128) / 128) / 128) / 128) (omega arith))
