mod BareSpellings
