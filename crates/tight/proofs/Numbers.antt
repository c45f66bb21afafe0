-- That the promises of the decimals are tight. Assumes nothing.
use Rattle.numbers.proofs as numbers
use Rattle.numbers.specs.contracts as of_numbers
use Rattle.tight.specs.Tight.{Tight}
use Rattle.tight.proofs.Shapes.{by_reply, by_reply_first, by_puts}

pub read_tight : Tight of_numbers.read.ended numbers.read.Reads.Asked numbers.read.Reads.Learnt
read_tight κs args = (tt, by_reply)

pub int_of_tight : Tight of_numbers.int_of.ended numbers.int_of.Reads.Asked numbers.int_of.Reads.Learnt
int_of_tight κs args = (tt, by_reply)

pub size_of_tight : Tight of_numbers.size_of.ended numbers.size_of.Reads.Asked numbers.size_of.Reads.Learnt
size_of_tight κs args = (tt, by_reply)

pub is_negative_tight : Tight of_numbers.is_negative.ended numbers.is_negative.Reads.Asked numbers.is_negative.Reads.Learnt
is_negative_tight κs args = (tt, by_reply)

pub width_tight : Tight of_numbers.width.ended numbers.width.Reads.Asked numbers.width.Reads.Learnt
width_tight κs args = (tt, λ x y. by_reply_first x y)

pub write_tight : Tight of_numbers.write.ended numbers.write.Reads.Asked numbers.write.Reads.Learnt
write_tight κs args = (tt, by_puts)

pub width_signed_tight : Tight of_numbers.width_signed.ended numbers.width_signed.Reads.Asked numbers.width_signed.Reads.Learnt
width_signed_tight κs args = (tt, λ x y. by_reply_first x y)

pub write_signed_tight : Tight of_numbers.write_signed.ended numbers.write_signed.Reads.Asked numbers.write_signed.Reads.Learnt
write_signed_tight κs args = (tt, by_puts)
