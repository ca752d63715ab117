mod NoPast
