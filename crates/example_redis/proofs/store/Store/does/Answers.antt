use Rattle.example_redis.specs.Store.{held}
use Rattle.example_redis.proofs.store.Store.does.Goals as goal

pub returns-in-Ping : goal.returns-in-Ping
returns-in-Ping c = rw c.in-Ping.is (c.ping.ensures (held c.args.self.now) c.args.name.now)

pub returns-in-Echo : goal.returns-in-Echo
returns-in-Echo c = rw c.in-Echo.is (c.echo.ensures (held c.args.self.now) c.args.name.now)

pub returns-in-Set : goal.returns-in-Set
returns-in-Set c = rw c.in-Set.is (c.answer_set.ensures c.args.name.now)

pub returns-in-Get : goal.returns-in-Get
returns-in-Get c = rw c.in-Get.is (c.answer_get.ensures c.args.name.now)

pub returns-in-Delete : goal.returns-in-Delete
returns-in-Delete c = rw c.in-Delete.is (c.answer_delete.ensures c.args.name.now)

pub returns-in-Size : goal.returns-in-Size
returns-in-Size c = rw c.in-Size.is (c.answer_size.ensures c.args.name.now)

pub returns-in-Select : goal.returns-in-Select
returns-in-Select c = rw c.in-Select.is (c.select.ensures (held c.args.self.now) c.args.name.now)

pub returns-in-Describe : goal.returns-in-Describe
returns-in-Describe c = rw c.in-Describe.is (c.describe.ensures (held c.args.self.now) c.args.name.now)

pub returns-in-Config : goal.returns-in-Config
returns-in-Config c = rw c.in-Config.is (c.configure.ensures (held c.args.self.now) c.args.name.now)

pub returns-in-Client : goal.returns-in-Client
returns-in-Client c = rw c.in-Client.is (c.introduce.ensures (held c.args.self.now) c.args.name.now)

pub returns-in-Exec : goal.returns-in-Exec
returns-in-Exec c = rw c.in-Exec.is (c.exec.ensures (held c.args.self.now) c.args.name.now)

pub returns-in-Discard : goal.returns-in-Discard
returns-in-Discard c = rw c.in-Discard.is (c.discard.ensures (held c.args.self.now) c.args.name.now)

pub returns-in-Multi : goal.returns-in-Multi
returns-in-Multi c = rw c.in-Multi.is (c.begin_transaction.ensures c.args.name.now)

pub returns-in-Quit : goal.returns-in-Quit
returns-in-Quit c = rw c.in-Quit.is (c.quit.ensures (held c.args.self.now))

pub returns-in-Web : goal.returns-in-Web
returns-in-Web c = rw c.in-Web.is (c.hang_up.ensures (held c.args.self.now))

pub returns-in-Unknown : goal.returns-in-Unknown
returns-in-Unknown c = rw c.in-Unknown.is (c.unknown.ensures (held c.args.self.now))
