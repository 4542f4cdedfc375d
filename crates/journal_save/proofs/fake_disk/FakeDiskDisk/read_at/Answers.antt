use Rattle.std.proofs.Common.{rules}
use Rattle.journal_save.specs.Fake.{state_of}
use Rattle.journal_save.proofs.FakeLemmas.{byte_read}
use Rattle.journal_save.proofs.fake_disk.FakeDiskDisk.read_at.Goals as goal

pub returns-clause-bytes : goal.returns-clause-bytes
returns-clause-bytes c = byte_read c.args.at c.args.self.now.now.file _ (state_of c.args.self.now.now) (search rules) (search rules) (search rules)
