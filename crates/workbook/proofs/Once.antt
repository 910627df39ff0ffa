-- A call is described to answer in one way only.
use Rattle.std.proofs.Common.{Err, refl, ap}
use Rattle.model.proofs.Numbers.{smallest_one}
use Rattle.workbook.specs.Calls.{Meets, OneAnswer}
use Rattle.workbook.specs.Calls.Described.{nowhere, refused, taken}

pub one_answer : OneAnswer
one_answer g e r r' h h' (nowhere a) (nowhere b) = (refl, refl)
one_answer g e r r' h h' (nowhere a) (refused b c) = absurd (b a)
one_answer g e r r' h h' (nowhere a) (taken b c) = absurd (b a)
one_answer g e r r' h h' (refused a b) (nowhere c) = absurd (a c)
one_answer g e r r' h h' (refused {x} a b) (refused {x = y} c d) = (ap Err (smallest_one (Meets g e) x y b.met d.met b.smallest d.smallest), refl)
one_answer g e r r' h h' (refused {x} a b) (taken c d) = absurd (d x b.met)
one_answer g e r r' h h' (taken a b) (nowhere c) = absurd (a c)
one_answer g e r r' h h' (taken a b) (refused {x = y} c d) = absurd (b y d.met)
one_answer g e r r' h h' (taken a b) (taken c d) = (refl, refl)
