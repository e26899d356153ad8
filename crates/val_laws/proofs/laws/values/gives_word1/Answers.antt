use Rattle.val_core.proofs.lemmas.Words.{gives_word1}
use Rattle.val_laws.proofs.laws.values.gives_word1.Goals as goal

pub returns : goal.returns
returns c = gives_word1
