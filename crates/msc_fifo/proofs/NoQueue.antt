-- An identity for where there is no queue: a function from numbers to identities has a value there too.
use Rattle.std.specs.Prelude.{[]}
use Rattle.msc_fifo.specs.Identity.{QueueId}

-- nothing looks into it
unfoldable pub no_queue : QueueId
no_queue = record { table = record { words = 0; slots = 0; views_name = 0; atom = 0; block = 0; offset = 0; slot_names = [] } }
