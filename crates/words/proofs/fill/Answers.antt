use Prim.Native.Nat.{ℕ}
use native.Mathlib.Omega.{arith}
use borrow.Author.Rules.{rules}
use lib.ListN.{length-replicate}
use Rattle.words.proofs.Tables.{put_mid_written, range_filled}
use Rattle.words.proofs.fill.Goals as goal

pub returns : goal.returns
returns c = let a = c.args in
    put_mid_written _ _ _ _ _ (range_filled a.s.now _ a.at a.n a.v c.requires (c.fill.ensures.after (λ y e. search rules))) (omega (arith, length-replicate {A = ℕ}))
