-- That the promises of the class table are tight. Assumes nothing.
use Rattle.classes.proofs as classes
use Rattle.classes.specs.contracts as of_classes
use Rattle.tight.specs.Tight.{Tight}
use Rattle.tight.proofs.Shapes.{by_reply, by_slice}

pub is_short_tight : Tight of_classes.is_short.ended classes.is_short.Reads.Asked classes.is_short.Reads.Learnt
is_short_tight κs args = (tt, by_reply)

pub is_known_tight : Tight of_classes.is_known.ended classes.is_known.Reads.Asked classes.is_known.Reads.Learnt
is_known_tight κs args = (tt, by_reply)

pub fits_tight : Tight of_classes.fits.ended classes.fits.Reads.Asked classes.fits.Reads.Learnt
fits_tight κs args = (tt, by_reply)

pub declare_tight : Tight of_classes.declare.ended classes.declare.Reads.Asked classes.declare.Reads.Learnt
declare_tight κs args = (tt, by_slice)

pub clear_tight : Tight of_classes.clear.ended classes.clear.Reads.Asked classes.clear.Reads.Learnt
clear_tight κs args = (tt, by_slice)

pub identity_room_tight : Tight of_classes.identities.room.ended classes.identities.room.Reads.Asked classes.identities.room.Reads.Learnt
identity_room_tight κs args = (tt, by_reply)

pub place_of_tight : Tight of_classes.identities.place_of.ended classes.identities.place_of.Reads.Asked classes.identities.place_of.Reads.Learnt
place_of_tight κs args = (tt, by_reply)

pub stated_tight : Tight of_classes.identities.stated.ended classes.identities.stated.Reads.Asked classes.identities.stated.Reads.Learnt
stated_tight κs args = (tt, by_reply)

pub put_tight : Tight of_classes.identities.put.ended classes.identities.put.Reads.Asked classes.identities.put.Reads.Learnt
put_tight κs args = (tt, by_slice)
