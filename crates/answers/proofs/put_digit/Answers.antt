use Rattle.answers.proofs.Placing.{digit-none, digit_counts, digit_leads}
use Rattle.answers.proofs.put_digit.Goals as goal

pub returns-then-p-eq0 : goal.returns-then-p-eq0
returns-then-p-eq0 c = search digit-none

pub returns-then-p-eq1 : goal.returns-then-p-eq1
returns-then-p-eq1 c = search digit_counts

pub returns : goal.returns
returns c = search digit_leads
