-- Laws of the numbers of the generator.
use Rattle.std.proofs.Common.{◌≡◌, ◌+◌, ℕ, suc, ap, arith}
use Rattle.aeth_demo.specs.Draws.{next_number, number_after}

-- After one draw more comes the next number.
pub number_after-more : (n k : ℕ) → number_after n (k + 1) ≡ next_number (number_after n k)
unfolding number_after
number_after-more n k =
    let next : k + 1 ≡ suc k = omega arith in
    ap (number_after n) next
