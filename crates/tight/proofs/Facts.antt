-- That the promises of the function facts are tight. Assumes nothing.
use Rattle.facts.proofs as facts
use Rattle.facts.specs.contracts as of_facts
use Rattle.tight.specs.Tight.{Tight}
use Rattle.tight.proofs.Shapes.{by_reply}

pub places_of_tight : Tight of_facts.places.places_of.ended facts.places.places_of.Reads.Asked facts.places.places_of.Reads.Learnt
places_of_tight κs args = (tt, by_reply)

pub result_of_tight : Tight of_facts.result_of.ended facts.result_of.Reads.Asked facts.result_of.Reads.Learnt
result_of_tight κs args = (tt, by_reply)

pub allowed_pending_tight : Tight of_facts.allowed_pending.ended facts.allowed_pending.Reads.Asked facts.allowed_pending.Reads.Learnt
allowed_pending_tight κs args = (tt, by_reply)

pub allowed_critical_tight : Tight of_facts.allowed_critical.ended facts.allowed_critical.Reads.Asked facts.allowed_critical.Reads.Learnt
allowed_critical_tight κs args = (tt, by_reply)

pub family_tight : Tight of_facts.family.ended facts.family.Reads.Asked facts.family.Reads.Learnt
family_tight κs args = (tt, by_reply)

pub is_critical_tight : Tight of_facts.is_critical.ended facts.is_critical.Reads.Asked facts.is_critical.Reads.Learnt
is_critical_tight κs args = (tt, by_reply)

pub is_local_result_tight : Tight of_facts.results.is_local_result.ended facts.results.is_local_result.Reads.Asked facts.results.is_local_result.Reads.Learnt
is_local_result_tight κs args = (tt, by_reply)

pub is_handle_result_tight : Tight of_facts.results.is_handle_result.ended facts.results.is_handle_result.Reads.Asked facts.results.is_handle_result.Reads.Learnt
is_handle_result_tight κs args = (tt, by_reply)

pub is_buffer_result_tight : Tight of_facts.results.is_buffer_result.ended facts.results.is_buffer_result.Reads.Asked facts.results.is_buffer_result.Reads.Learnt
is_buffer_result_tight κs args = (tt, by_reply)

pub is_handle_place_tight : Tight of_facts.results.is_handle_place.ended facts.results.is_handle_place.Reads.Asked facts.results.is_handle_place.Reads.Learnt
is_handle_place_tight κs args = (tt, by_reply)

pub is_buffer_place_tight : Tight of_facts.results.is_buffer_place.ended facts.results.is_buffer_place.Reads.Asked facts.results.is_buffer_place.Reads.Learnt
is_buffer_place_tight κs args = (tt, by_reply)

pub is_reserved_tight : Tight of_facts.classes.is_reserved.ended facts.classes.is_reserved.Reads.Asked facts.classes.is_reserved.Reads.Learnt
is_reserved_tight κs args = (tt, by_reply)

pub class_made_tight : Tight of_facts.classes.class_made.ended facts.classes.class_made.Reads.Asked facts.classes.class_made.Reads.Learnt
class_made_tight κs args = (tt, by_reply)

pub is_identity_place_tight : Tight of_facts.results.is_identity_place.ended facts.results.is_identity_place.Reads.Asked facts.results.is_identity_place.Reads.Learnt
is_identity_place_tight κs args = (tt, by_reply)

pub wanted_of_tight : Tight of_facts.identities.wanted_of.ended facts.identities.wanted_of.Reads.Asked facts.identities.wanted_of.Reads.Learnt
wanted_of_tight κs args = (tt, by_reply)

pub suits_tight : Tight of_facts.identities.suits.ended facts.identities.suits.Reads.Asked facts.identities.suits.Reads.Learnt
suits_tight κs args = (tt, by_reply)

pub writes_field_tight : Tight of_facts.identities.writes_field.ended facts.identities.writes_field.Reads.Asked facts.identities.writes_field.Reads.Learnt
writes_field_tight κs args = (tt, by_reply)
