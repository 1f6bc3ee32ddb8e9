-- What each record that the code hands back means, and none. Assumes nothing.
use Rattle.std.specs.Prelude.{Option, Some, None}
use Rattle.meaning.specs.Calls.{Call, root, context_of, set_context, total_of, used_of, free_of, find, allocate, make_store, clear, resize, make_stack, destroy_stack, add_thread, remove_thread}
use Rattle.meaning.specs.Cases.{start_at}
use Rattle.call_list.specs.Records.{Entry, call, stop}
use Rattle.call_list.specs.declared.Record.{Record}
use Rattle.call_list.specs.declared.Record.TheVariants.{Start, Root, Context, SetContext, Total, Used, Free, Find, Allocate, MakeStore, Clear, Resize, MakeStack, DestroyStack, AddThread, RemoveThread}

-- the call of document 01 that a record is
abbrev pub call_made : Record → Call
call_made (Start a b c d) = start_at a b c d
call_made Root = root
call_made (Context t) = context_of t
call_made (SetContext t s) = set_context t s
call_made (Total s) = total_of s
call_made (Used s) = used_of s
call_made (Free s) = free_of s
call_made (Find a) = find a
call_made (Allocate t n) = allocate t n
call_made (MakeStore t n) = make_store t n
call_made (Clear t) = clear t
call_made (Resize s n) = resize s n
call_made (MakeStack n) = make_stack n
call_made (DestroyStack k) = destroy_stack k
call_made (AddThread t s) = add_thread t s
call_made (RemoveThread t) = remove_thread t

-- a record is a call, and at anything else the program stops
abbrev pub entry_of : Option Record → Entry
entry_of (Some r) = call (call_made r)
entry_of None = stop
