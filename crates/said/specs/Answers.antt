-- AN ANSWER as seven numbers, by what was said. Assumes nothing: these are definitions.
use Rattle.std.specs.Prelude.{get_or}
use Rattle.openings.specs.Said.{Said, done, refused}
use Rattle.said.specs.declared.Answer.{Answer}

-- number 0 is a call that did its work; a value that it does not give is 0, and a refused call gives none
abbrev pub answer_of : Said → Answer
answer_of (done values) =
    record { number = 0; sheet = 0; place = 0; flag = 0; value = get_or values 0 0; value2 = get_or values 1 0; value3 = get_or values 2 0 }
answer_of (refused number sheet place flag) =
    record { number = number; sheet = sheet; place = place; flag = flag; value = 0; value2 = 0; value3 = 0 }
