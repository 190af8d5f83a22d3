use Rattle.papaya_call_alone.proofs.AtLimit.{limit_each, limit_free, limit_full, limit_goes_on, limit_logs, limit_takes}
use Rattle.papaya_call_alone.proofs.limits.alone_limits.Goals as goal

pub returns-clause-full : goal.returns-clause-full
returns-clause-full c = λ m most count limit asks full. limit_full m most count limit asks full

pub returns-clause-free : goal.returns-clause-free
returns-clause-free c = λ m most count limit asks free. limit_free m most count limit asks free

pub returns-clause-takes : goal.returns-clause-takes
returns-clause-takes c = λ words m old new current asks. limit_takes m old new asks words current.number

pub returns-clause-goes_on : goal.returns-clause-goes_on
returns-clause-goes_on c = λ m old new asks. limit_goes_on m old new asks

pub returns-clause-begins : goal.returns-clause-begins
returns-clause-begins c = λ task hash mode initial number most has. absurd cc

pub returns-clause-stores : goal.returns-clause-stores
returns-clause-stores c = λ m logs. limit_logs m logs

pub returns-clause-each : goal.returns-clause-each
returns-clause-each c = λ m answer most limit has. limit_each m most limit answer has
