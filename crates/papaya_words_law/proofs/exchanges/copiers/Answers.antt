use Rattle.papaya_words_law.proofs.exchanges.copiers.Goals as goal
use Rattle.papaya_words_law.proofs.Copies.{first_target, next_target, target_takes, meets, may_place, may_abort, put_next, may_finish}

pub returns-clause-first : goal.returns-clause-first
returns-clause-first g c = λ h s t some. first_target h s t some

pub returns-clause-aborted : goal.returns-clause-aborted
returns-clause-aborted g c = λ h s blocks t n r e some. next_target h s blocks t n r e some

pub returns-clause-takes : goal.returns-clause-takes
returns-clause-takes g c = λ h s k t n r. target_takes h s k t n r

pub returns-clause-meets : goal.returns-clause-meets
returns-clause-meets g c = λ h s t x p n j r. meets h s t x p n j r

pub returns-clause-place : goal.returns-clause-place
returns-clause-place g c = λ h s t x p n j r lt e. may_place h s t x p n j r lt e

pub returns-clause-abort : goal.returns-clause-abort
returns-clause-abort g c = λ h s t x p n r blocks live. may_abort h s t x p n r blocks live

pub returns-clause-on : goal.returns-clause-on
returns-clause-on g c = λ h s t x p n r inc some. put_next h s t x p n r inc some

pub returns-clause-finish : goal.returns-clause-finish
returns-clause-finish g c = λ h s t x p n j r has inc e. may_finish h s t x p n j r has inc e
