use Rattle.papaya_words_law.proofs.exchanges.tables_come_later.Goals as goal
use Rattle.std.proofs.Common.{None}
use Rattle.papaya_words_law.specs.Exchange.{start}
use Rattle.papaya_words_law.specs.Class.{IsOn}
use Rattle.papaya_words_law.proofs.Carries.{keeping_carries}
use Rattle.papaya_words_law.proofs.Grows.{allows_carries, reached_carries, all_carries, later_carries, map_of_carries}
use Rattle.papaya_words_law.proofs.OneMap.{keeping_sound, start_keeps}

pub returns-clause-keeps : goal.returns-clause-keeps
returns-clause-keeps g c = λ h h' s m agrees keeps. keeping_carries h h' s m agrees keeps

pub returns-clause-allows : goal.returns-clause-allows
returns-clause-allows g c = λ h h' s m agrees keeps e chunks may. allows_carries h h' s (keeping_sound h s m keeps) agrees e chunks may

pub returns-clause-reaches : goal.returns-clause-reaches
returns-clause-reaches g c = λ h h' s m agrees keeps k t r. reached_carries h h' s (keeping_sound h s m keeps) agrees k t r

pub returns-clause-list : goal.returns-clause-list
returns-clause-list g c = λ h law h' es may agrees. all_carries h law h' es start (λ k. None) (start_keeps h law) may agrees

pub returns-clause-later : goal.returns-clause-later
returns-clause-later g c = λ h h' s s' agrees l. later_carries h h' (IsOn s'.first s'.next) agrees s s' l

pub returns-clause-map : goal.returns-clause-map
returns-clause-map g c = λ h h' s agrees es m. map_of_carries h h' (IsOn s.first s.next) agrees es m
