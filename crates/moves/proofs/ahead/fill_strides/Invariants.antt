use Rattle.moves.proofs.Filling.{Filling}
use Rattle.moves.proofs.ahead.fill_strides.Given as goal

abbrev pub invariant-loop-place : goal.invariant-loop-place
invariant-loop-place l =
    Filling l.owners l.period l.initial.nexts l.place l.last l.run l.gap l.nexts l.strides
