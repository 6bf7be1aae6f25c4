use Rattle.sheet.proofs.CallLaws.{put_is_read_back}
use Rattle.sheet.proofs.laws.put_is_read_back.Goals as goal

pub returns : goal.returns
returns c = put_is_read_back
