use Rattle.fanouts.proofs.Sums.{sums_begin, sum_fits, sums_go_on, sums_end}
use native.Mathlib.Omega.{arith}
use Prim.Native.Nat.{◌≤◌, ◌+◌}
use Rattle.fanouts.proofs.sum_up.Goals as goal

pub loop-i-init : goal.loop-i-init
loop-i-init c = search sums_begin

pub overflow_add-sum : goal.overflow_add-sum
overflow_add-sum c = let h : c.loop-i.sum + c.word-n.result ≤ 4294967295 = search sum_fits in omega arith

pub loop-i-preserved : goal.loop-i-preserved
loop-i-preserved c = search sums_go_on

pub returns : goal.returns
returns c = search sums_end
