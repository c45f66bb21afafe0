-- That the promises of the exported judge are tight. Assumes nothing.
use mathlib.Core.List.{[]}
use Rattle.exported.proofs as exported
use Rattle.exported.specs.contracts as of_exported
use Rattle.exported.specs.Told.{Told}
use Rattle.exported.specs.Pieced.{ToldPiece}
use Rattle.exported.specs.Judged.{Judged}
use Rattle.exported.specs.Listed.{ToldList}
use Rattle.tight.specs.Tight.{given, Tight}
use Rattle.tight.proofs.Shapes.{by, by_tables, with_tables}

pub weir_start_tight : Tight of_exported.weir_start.ended exported.weir_start.Reads.Asked exported.weir_start.Reads.Learnt
weir_start_tight κs args = (tt, by_tables)

pub weir_step_tight : Tight of_exported.weir_step.ended exported.weir_step.Reads.Asked exported.weir_step.Reads.Learnt
weir_step_tight κs args = (tt, λ x y. by (λ (o : Told). given o.number (tt, with_tables o.left (o.found, tt))))

pub weir_piece_tight : Tight of_exported.weir_piece.ended exported.weir_piece.Reads.Asked exported.weir_piece.Reads.Learnt
weir_piece_tight κs args = (tt, λ x y. by (λ (o : ToldPiece). given o.number (tt, (tt, with_tables o.left (o.out, (o.far, tt))))))

pub weir_leaks_tight : Tight of_exported.weir_leaks.ended exported.weir_leaks.Reads.Asked exported.weir_leaks.Reads.Learnt
weir_leaks_tight κs args = (tt, λ x y p q. by (λ (o : ToldList). given o.number (tt, (tt, (tt, (tt, (tt, (o.left, tt))))))) (p []) (q []))

pub weir_judge_tight : Tight of_exported.weir_judge.ended exported.weir_judge.Reads.Asked exported.weir_judge.Reads.Learnt
weir_judge_tight κs args = (tt, λ x y. by (λ (o : Judged). given o.number (tt, with_tables o.left (o.out, tt))))
