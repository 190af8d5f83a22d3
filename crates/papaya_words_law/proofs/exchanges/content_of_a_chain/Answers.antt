use Rattle.papaya_words_law.proofs.exchanges.content_of_a_chain.Goals as goal
use Rattle.papaya_words_law.specs.Exchange.{after}
use Rattle.papaya_words_law.specs.Meaning.{map_after}
use Rattle.papaya_words_law.specs.ChainContent.{chain_content}
use Rattle.papaya_words_law.proofs.ChainContent.{chain_apart, chain_is, no_chain}
use Rattle.papaya_words_law.proofs.FiniteMaps.{length_after}
use Rattle.papaya_words_law.proofs.OneMap.{means, step_keeps}

pub returns-clause-holds : goal.returns-clause-holds
returns-clause-holds g c = λ h law s m keeps n ends k. chain_is h law s m keeps n ends k

pub returns-clause-apart : goal.returns-clause-apart
returns-clause-apart g c = λ h law s m keeps n. chain_apart h law s m keeps n s.root

pub returns-clause-nothing : goal.returns-clause-nothing
returns-clause-nothing g c = λ h law s m keeps none. (no_chain h law s m keeps none, λ k. (means h law s m keeps k).no_root none)

pub returns-clause-count : goal.returns-clause-count
returns-clause-count g c = λ h law s m keeps e may n now ends ends'.
    let r = step_keeps h law s m keeps e may in
    length_after h law m (chain_content h s n) (chain_content h (after s e) now) (chain_apart h law s m keeps n s.root)
    (chain_apart h law (after s e) (map_after h m e) r.1 now (after s e).root) (chain_is h law s m keeps n ends) e r.0
    (chain_is h law (after s e) (map_after h m e) r.1 now ends')
