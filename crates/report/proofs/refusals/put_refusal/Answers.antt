use Rattle.report.proofs.refusals.put_refusal.Goals as goal

pub returns-in-OilByte : goal.returns-in-OilByte
returns-in-OilByte g c = rw c.in-OilByte.is c.put_at.ensures

pub returns-in-OilToken : goal.returns-in-OilToken
returns-in-OilToken g c = rw c.in-OilToken.is c.put_at-in-OilToken.ensures

pub returns-in-OilEnd : goal.returns-in-OilEnd
returns-in-OilEnd g c = rw c.in-OilEnd.is c.put_at-in-OilEnd.ensures

pub returns-in-OilRule : goal.returns-in-OilRule
returns-in-OilRule g c = rw c.in-OilRule.is c.put_rule.ensures

pub returns-in-CByte : goal.returns-in-CByte
returns-in-CByte g c = rw c.in-CByte.is c.put_at-in-CByte.ensures

pub returns-in-CDirective : goal.returns-in-CDirective
returns-in-CDirective g c = rw c.in-CDirective.is c.put_at-in-CDirective.ensures

pub returns-in-CNumber : goal.returns-in-CNumber
returns-in-CNumber g c = rw c.in-CNumber.is c.put_at-in-CNumber.ensures

pub returns-in-CDepth : goal.returns-in-CDepth
returns-in-CDepth g c = rw c.in-CDepth.is c.put_at-in-CDepth.ensures

pub returns-in-CToken : goal.returns-in-CToken
returns-in-CToken g c = rw c.in-CToken.is c.put_at-in-CToken.ensures

pub returns-in-CEnd : goal.returns-in-CEnd
returns-in-CEnd g c = rw c.in-CEnd.is c.put_at-in-CEnd.ensures

pub returns-in-CRule : goal.returns-in-CRule
returns-in-CRule g c = rw c.in-CRule.is c.put_rule-in-CRule.ensures

pub returns-in-StaticRule : goal.returns-in-StaticRule
returns-in-StaticRule g c = rw c.in-StaticRule.is c.put_rule-in-StaticRule.ensures

pub returns-in-FormC : goal.returns-in-FormC
returns-in-FormC g c = rw c.in-FormC.is c.put_at-in-FormC.ensures

pub returns-in-Points : goal.returns-in-Points
returns-in-Points g c = rw c.in-Points.is c.put_limit.ensures

pub returns-in-Cells : goal.returns-in-Cells
returns-in-Cells g c = rw c.in-Cells.is c.put_limit-in-Cells.ensures

pub returns-in-Size : goal.returns-in-Size
returns-in-Size g c = rw c.in-Size.is c.put_limit-in-Size.ensures

pub returns-in-State : goal.returns-in-State
returns-in-State g c = rw c.in-State.is c.put_limit-in-State.ensures

pub returns-in-LongOil : goal.returns-in-LongOil
returns-in-LongOil g c = rw c.in-LongOil.is c.put.ensures

pub returns-in-LongC : goal.returns-in-LongC
returns-in-LongC g c = rw c.in-LongC.is c.put-in-LongC.ensures

pub returns-in-LongSchedule : goal.returns-in-LongSchedule
returns-in-LongSchedule g c = rw c.in-LongSchedule.is c.put-in-LongSchedule.ensures

pub returns-in-LongCert : goal.returns-in-LongCert
returns-in-LongCert g c = rw c.in-LongCert.is c.put-in-LongCert.ensures

pub returns-in-ScheduleLine : goal.returns-in-ScheduleLine
returns-in-ScheduleLine g c = rw c.in-ScheduleLine.is c.put_at-in-ScheduleLine.ensures

pub returns-in-CertByte : goal.returns-in-CertByte
returns-in-CertByte g c = rw c.in-CertByte.is c.put_at-in-CertByte.ensures

pub returns-in-CertToken : goal.returns-in-CertToken
returns-in-CertToken g c = rw c.in-CertToken.is c.put_at-in-CertToken.ensures

pub returns-in-CertEnd : goal.returns-in-CertEnd
returns-in-CertEnd g c = rw c.in-CertEnd.is c.put_at-in-CertEnd.ensures
