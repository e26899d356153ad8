-- The linear code of well-formed lambdas does over places what it does over names.
use Rattle.std.proofs.Common.{List, [], ◌∷◌, map}
use Rattle.g_graph.specs.Plain.{PlainLambda}
use Rattle.g_mean.specs.Kinds.{AreWellFormed}
use Rattle.s_sequence.specs.Sequence.{sequenced}
use Rattle.s_sequence_keeps.specs.Laws.{SequencedCodeIsClosed}
use Rattle.a_place_keeps.specs.Laws.{FunctionsAreClosed, FunctionsAgree, SequencedFunctionsAgree, SharedFunctionsAgree, SequencedSharedAgree, ClosedHaveOwnTurns, SequencedHaveOwnTurns}
use Rattle.a_place_keeps.proofs.Chooses.{sequenced_chooses}

closed : SequencedCodeIsClosed → (ls : List PlainLambda) → AreWellFormed ls → FunctionsAreClosed (map sequenced ls)
closed law [] h = tt
closed law (l ∷ ls) h = (law l h.0, closed law ls h.1)

pub sequenced_functions_agree : SequencedCodeIsClosed → FunctionsAgree → SequencedFunctionsAgree
sequenced_functions_agree law agree ls h = agree (map sequenced ls) (closed law ls h)

pub sequenced_shared_agree : SequencedCodeIsClosed → SharedFunctionsAgree → SequencedSharedAgree
sequenced_shared_agree law agree ls h = agree (map sequenced ls) (closed law ls h)

pub sequenced_have_own_turns : SequencedCodeIsClosed → ClosedHaveOwnTurns → SequencedHaveOwnTurns
sequenced_have_own_turns law turns l w = turns (sequenced l) (law l w) (sequenced_chooses l w)
