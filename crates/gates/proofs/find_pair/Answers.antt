use Rattle.gates.proofs.Find.{rows_few, search_begins, search_finds, search_goes_on, link_less, search_ends}
use Rattle.gates.proofs.find_pair.Goals as goal

pub bucket_of-bucket-requires : goal.bucket_of-bucket-requires
bucket_of-bucket-requires c = search rows_few

pub loop-p-init : goal.loop-p-init
loop-p-init c = search search_begins

pub returns-then-is_pair : goal.returns-then-is_pair
returns-then-is_pair c = search search_finds

pub loop-p-smaller : goal.loop-p-smaller
loop-p-smaller c = search link_less

pub loop-p-preserved : goal.loop-p-preserved
loop-p-preserved c = search search_goes_on

pub returns : goal.returns
returns c = search search_ends
