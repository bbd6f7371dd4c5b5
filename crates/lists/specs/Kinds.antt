-- The list's syntax that the code's description of it stands for.
use Rattle.std.specs.Prelude.{true, false, not, eqb}
use Rattle.bits.specs.Refusals.{pick}
use Rattle.syntax.specs.Lists.{Kind}
use Rattle.lists.specs.declared.operations.ListKind.{ListKind}

abbrev pub kind_of : ListKind → Kind
kind_of k =
    record {
      closing = k.closing;
      greatest = k.greatest;
      number = k.number;
      has_first = λ c. pick k.marking (not (eqb c 5)) true;
      has_second = λ c. pick k.marking (eqb c 3) false;
    }
