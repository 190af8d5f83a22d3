use Rattle.papaya_call_alone.proofs.CopyLaw.{copy_current, copy_nears}
use Rattle.papaya_call_alone.proofs.alone.alone_copiers.Goals as goal

pub returns-clause-nearer : goal.returns-clause-nearer
returns-clause-nearer g c = λ h d hashed s m keeps bounded mode initial number loaded copying r made read answer es loaded' told before later spends.
    copy_nears h d hashed s m keeps bounded mode initial number loaded copying r made read answer es loaded' told before later spends

pub returns-clause-current : goal.returns-clause-current
returns-clause-current g c = λ h d hashed s m keeps bounded mode initial number loaded copying r made read answer es loaded' told.
    copy_current h d hashed s m keeps bounded mode initial number loaded copying r made read answer es loaded' told
