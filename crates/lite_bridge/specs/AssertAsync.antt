-- The value inside an `AssertAsync`.
use Rattle.lite_bridge.specs.declared.assert_async.AssertAsync.{AssertAsync}

-- The blocking reader or writer inside.
abbrev pub handle_of : {T : Type 0} → AssertAsync T → T
handle_of x = x.inner
