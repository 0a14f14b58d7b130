use Rattle.std.proofs.Common.{take}
use Rattle.std.specs.Fmt.{HasWritten, IsPlainFormatter}
use Rattle.session.specs.Texts.{records_text}
use Rattle.session.proofs.text.records.Given as goal

abbrev pub invariant-loop-record : goal.invariant-loop-record
invariant-loop-record g l = IsPlainFormatter l.initial.f → HasWritten g.W.Write.write_str_gives l.initial.f (records_text (take l.record-index l.records)) l.f
