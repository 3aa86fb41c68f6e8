use Rattle.subsets.proofs.Places.{first_places, first_fits, second_places, second_fits, subset_made}
use Rattle.subsets.proofs.pick_both.Goals as goal

pub pick-requires : goal.pick-requires
pick-requires c = record { places = search first_places; to_value = search; n_in_bounds = search first_fits }

pub pick-requires-2 : goal.pick-requires-2
pick-requires-2 c = record { places = search second_places; to_value = search; n_in_bounds = search second_fits }

pub returns : goal.returns
returns c = search subset_made
