use Rattle.sheet.proofs.CallLaws.{read_is_put_back}
use Rattle.sheet.proofs.laws.read_is_put_back.Goals as goal

pub returns : goal.returns
returns c = read_is_put_back
